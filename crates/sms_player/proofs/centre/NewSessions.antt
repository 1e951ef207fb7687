-- The sessions of a script's accounts.
use Rattle.std.proofs.Common.{◌≡◌, ℕ, ◌<◌, ◌+◌, arith, List, [], ◌∷◌, ap, ⊎_elim}
use Rattle.sms_base.specs.Among.{Among}
use Rattle.sms_intake.specs.declared.submission.CentreAccount.{CentreAccount}
use Rattle.sms_play.specs.PlayedEvent.{sessions_from}
use Rattle.sms_centre_rows.specs.reports.Receipts.{Session, session_key}
use Rattle.sms_centre.specs.state.Recovering.{AreNew}
use Rattle.sms_rows.specs.table.Table.{AllAbove, Rises}

pub none_waits : (x : Session) (n : ℕ) (accounts : List CentreAccount) → Among x (sessions_from n accounts) → x.unanswered ≡ []
none_waits x n [] i = absurd i
none_waits x n (a ∷ others) i = ⊎_elim (λ (e : x ≡ _). ap (λ (z : Session). z.unanswered) e) (λ j. none_waits x (n + 1) others j) i

pub are_new : (accounts : List CentreAccount) → AreNew (sessions_from 0 accounts)
are_new accounts = λ s i. none_waits s 0 accounts i

pub sessions_above : (k n : ℕ) (accounts : List CentreAccount) → k < n → AllAbove session_key k (sessions_from n accounts)
sessions_above k n [] l = tt
sessions_above k n (a ∷ others) l = (l, sessions_above k (n + 1) others (omega (arith, l)))

pub sessions_rise : (n : ℕ) (accounts : List CentreAccount) → Rises session_key (sessions_from n accounts)
sessions_rise n [] = tt
sessions_rise n (a ∷ others) = (sessions_above n (n + 1) others (omega arith), sessions_rise (n + 1) others)
