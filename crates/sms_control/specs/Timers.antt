-- The timers of a transaction (3GPP TS 24.011 5.3.2.1, 6.2 and 10). TC1* repeats CP-DATA that is not acknowledged. TR1N
-- of the network or TR1M of a handset ends a transaction that this side began. Both are as long, and are called tr1
-- here, since an end of a link does not know which it is. The lengths are this project's profile.
use Rattle.std.specs.Prelude.{ℕ, ◌+◌, ◌-◌, min, nat_lt, ◌==◌, if◌then◌else◌, Option, Some, None}
use Rattle.sms_control.specs.declared.link_state.Repetition.{Repetition}
use Rattle.sms_control.specs.declared.link_state.Begun.{Begun}
use Rattle.sms_control.specs.declared.link_state.Answer.{Answer}
use Rattle.sms_control.specs.declared.link_state.Opened.{Opened}
use Rattle.sms_control.specs.declared.timers.Firing.{Firing}
use Rattle.sms_control.specs.declared.timers.Firing.TheVariants.{Idle, Again, Closes}

-- seconds
abbrev pub tc1_star : ℕ
tc1_star = 10

abbrev pub tr1 : ℕ
tr1 = 40

-- how often CP-DATA is sent again
abbrev pub most_repeats : ℕ
most_repeats = 2

-- a moment so many seconds later, or the last moment there is
abbrev pub later : ℕ → ℕ → ℕ
later now seconds = min (now + seconds) 4102444799

-- TC1* of a frame that is sent now
abbrev pub first_sending : ℕ → Repetition
first_sending now = record { due = later now tc1_star; repeats_left = most_repeats }

-- TC1* of a frame that is sent again now
abbrev pub sent_again : ℕ → Repetition → Repetition
sent_again now r = record { due = later now tc1_star; repeats_left = r.repeats_left - 1 }

-- A timer fires at its moment and past it; TC1* sends again while a repeat is left, and then closes.
abbrev pub tc1_firing : ℕ → Repetition → Firing
tc1_firing now r = if nat_lt now r.due then Idle else (if r.repeats_left == 0 then Closes else Again)

-- none where CP-ACK arrived
abbrev pub repetition_firing : ℕ → Option Repetition → Firing
repetition_firing now None = Idle
repetition_firing now (Some r) = tc1_firing now r

-- TR1N or TR1M is looked at first, then TC1*
abbrev pub begun_firing : ℕ → Option Begun → Firing
begun_firing now None = Idle
begun_firing now (Some b) = if nat_lt now b.closes then repetition_firing now b.repetition else Closes

abbrev pub answer_firing : ℕ → Option Answer → Firing
answer_firing now None = Idle
answer_firing now (Some a) = tc1_firing now a.repetition

abbrev pub opened_firing : ℕ → Option Opened → Firing
opened_firing now None = Idle
opened_firing now (Some o) = answer_firing now o.answer
