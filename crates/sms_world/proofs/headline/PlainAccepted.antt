-- No part of any message was accepted twice, as the lines of a report say it.
use Rattle.sms_base.specs.Among.{Among}
use Rattle.sms_base.specs.Reading.{◌>>=◌}
use Rattle.sms_base.specs.declared.holder.Holder.{Holder}
use Rattle.sms_base.specs.declared.holder.Holder.TheVariants.{Entry, Memory, Part, Report}
use Rattle.sms_centre_spec.specs.SoundCore.{AreDifferent}
use Rattle.sms_play.specs.PlayState.{Party, PlayState, numbers_of}
use Rattle.sms_play.specs.Playing.{accepted_lines, report_of}
use Rattle.sms_play.specs.Premises.{pairs_of}
use Rattle.sms_play.specs.judging.Watching.{pair_accepted}
use Rattle.sms_script.specs.declared.report.rows.AcceptedRow.{AcceptedRow}
use Rattle.sms_tpdu.specs.TpduReading.{data_down_at, deliver_at, down_at, is_status_report, status_report_at}
use Rattle.sms_tpdu.specs.declared.carrier.Carrier.TheVariants.{InData}
use Rattle.sms_tpdu.specs.declared.deliver.Deliver.{Deliver as DeliverOf}
use Rattle.sms_tpdu.specs.declared.down.Down.{Down}
use Rattle.sms_tpdu.specs.declared.down.Down.TheVariants.{Deliver, StatusReport}
use Rattle.sms_tpdu.specs.declared.fault.TpduFault.{TpduFault}
use Rattle.sms_tpdu.specs.declared.status_report.StatusReport.{StatusReport as StatusReportOf}
use Rattle.sms_world.proofs.headline.TimelyClaims.{among_own, own_once}
use Rattle.sms_world.proofs.scripts_are_runs.Agreeing.{sound_there}
use Rattle.sms_world.specs.headline.PlainReport.{NoneTwice, compared_line, compared_lines, is_deliver}
use Rattle.sms_world.specs.headline.SeenWorld.{accepted_at}
use Rattle.sms_world.specs.scripts_are_runs.PlayRefinement.{PlayRefines}
use Rattle.sms_world_model.proofs.Faithful.{IsFaithful, no_part_twice}
use Rattle.sms_world_model.proofs.Sound.{IsKnown}
use Rattle.sms_world_model.specs.Groups.{OccursOnce}
use Rattle.sms_world_model.specs.World.{Accepted, Allocation, World, pair_given}
use Rattle.std.proofs.Common.{Err, List, Ok, Result, [], ap, false, inl, inr, refl, subst, sym, true, ⊎_elim, ℕ, ◌%◌, ◌++◌, ◌∙◌, ◌∷◌, ◌≡◌}
use Rattle.std.proofs.lemmas.Bool.{cases_Bool, cond-false, cond-true, eqb-true}
use Rattle.std.proofs.lemmas.Slice.Eq.{bytes_eq-Decides}
use Rattle.std.specs.Str.{bytes_eq}
use Rattle.std.specs.Prelude.{◌==◌, ◌⊎◌}
use Rattle.sms_base.proofs.Lists.{among_parts}

-- ---- a STATUS-REPORT is no DELIVER

abbrev pub read_status : StatusReportOf → Result Down TpduFault
read_status r = Ok (StatusReport r)

abbrev as_deliver : Result DeliverOf TpduFault → Result Down TpduFault
as_deliver r = r >>= (λ (d : DeliverOf). Ok (Deliver d))

no_status : (read : Result DeliverOf TpduFault) (r : StatusReportOf) → as_deliver read ≡ read_status r → ⊥
no_status (Ok d) r e = absurd cc
no_status (Err fault) r e = absurd cc

not_two : (n : ℕ) → n ≡ 0 → (n == 2) ≡ false
not_two n e = ap (λ (k : ℕ). k == 2) e

pub status_is_other : (octets : List ℕ) (r : StatusReportOf) → is_deliver octets ≡ true → down_at InData octets ≡ read_status r → ⊥
unfolding down_at data_down_at
status_is_other [] r is e = absurd cc
status_is_other (first ∷ rest) r is e =
    let other : is_status_report (first ∷ rest) ≡ false = not_two (first % 4) (eqb-true (first % 4) 0 is) in
    no_status (deliver_at (first ∷ rest)) r
    (sym (cond-false (is_status_report (first ∷ rest)) (status_report_at (first ∷ rest) >>= (λ (s : StatusReportOf). Ok (StatusReport s))) (as_deliver (deliver_at (first ∷ rest))) other) ∙ e)

-- ---- pairs, newest first

-- of a line that was compared already
abbrev pub of_line : AcceptedRow → Accepted
of_line a = record { handset = a.handset; reference = a.reference; tpdu = a.tpdu }

abbrev pub pairs : List AcceptedRow → List Accepted
pairs [] = []
pairs (a ∷ rows) = pair_accepted a ∷ pairs rows

still_there : (x : Accepted) (newest : List Accepted) (rows : List AcceptedRow) → Among x newest → Among x (pairs_of newest rows)
still_there x newest [] i = i
still_there x newest (a ∷ rows) i = still_there x (pair_accepted a ∷ newest) rows (inr i)

-- what stands once and was there before is not among those that came since
not_since : (x : Accepted) (newest : List Accepted) (rows : List AcceptedRow) → OccursOnce x (pairs_of newest rows) → Among x newest → OccursOnce x newest × ¬ Among x (pairs rows)
not_since x newest [] once i = (once, λ j. j)
not_since x newest (a ∷ rows) once i =
    let behind = not_since x (pair_accepted a ∷ newest) rows once (inr i) in
    ⊎_elim
    (λ (here : (x ≡ pair_accepted a) × ¬ Among x newest). absurd (here.1 i))
    (λ (before : ¬ (x ≡ pair_accepted a) × OccursOnce x newest). (before.1, λ j. ⊎_elim before.0 behind.1 j))
    behind.0

as_pair : (a : AcceptedRow) (rows : List AcceptedRow) → Among (compared_line a) (compared_lines rows) → Among (pair_accepted a) (pairs rows)
as_pair a [] i = absurd i
as_pair a (b ∷ rows) i = ⊎_elim
    (λ (e : compared_line a ≡ compared_line b). inl (ap of_line e))
    (λ (j : Among (compared_line a) (compared_lines rows)). inr (as_pair a rows j))
    i

-- each DELIVER among the pairs stands there once
abbrev pub DeliversOnce : List Accepted → Type 0
DeliversOnce ps = (x : Accepted) → Among x ps → is_deliver x.tpdu ≡ true → OccursOnce x ps

none_twice : (newest : List Accepted) (rows : List AcceptedRow) → DeliversOnce (pairs_of newest rows) → NoneTwice (compared_lines rows)
none_twice newest [] once = tt
none_twice newest (a ∷ rows) once = (
  λ is i.
      let o : OccursOnce (pair_accepted a) (pairs_of (pair_accepted a ∷ newest) rows) = once (pair_accepted a) (still_there (pair_accepted a) (pair_accepted a ∷ newest) rows (inl refl)) is in
      (not_since (pair_accepted a) (pair_accepted a ∷ newest) rows o (inl refl)).1 (as_pair a rows i),
  none_twice (pair_accepted a ∷ newest) rows once,
)

-- ---- one handset behind another

pub compared_over : (xs ys : List AcceptedRow) → compared_lines (xs ++ ys) ≡ compared_lines xs ++ compared_lines ys
compared_over [] ys = refl
compared_over (x ∷ xs) ys = ap (λ (z : List AcceptedRow). compared_line x ∷ z) (compared_over xs ys)

none_in_both : (xs ys : List AcceptedRow) → NoneTwice xs → NoneTwice ys → ((a : AcceptedRow) → Among a xs → ¬ Among a ys) → NoneTwice (xs ++ ys)
none_in_both [] ys one other apart = other
none_in_both (x ∷ xs) ys one other apart = (
  λ is i. ⊎_elim (λ (j : Among x xs). one.0 is j) (λ (j : Among x ys). apart x (inl refl) j) (among_parts x xs ys i),
  none_in_both xs ys one.1 other (λ a i. apart a (inr i)),
)

-- of whose handset they are
abbrev pub AreOf : List ℕ → List AcceptedRow → Type 0
AreOf number rows = (a : AcceptedRow) → Among a rows → a.handset ≡ number

abbrev pub EachOwn : List Party → Type 0
EachOwn ps = (p : Party) → Among p ps → AreOf p.number (compared_lines p.accepted) × NoneTwice (compared_lines p.accepted)

pub of_one : (a : AcceptedRow) (ps : List Party) → EachOwn ps → Among a (compared_lines (accepted_lines ps)) → Among a.handset (numbers_of ps)
of_one a [] own i = absurd i
of_one a (p ∷ ps) own i = ⊎_elim
    (λ (j : Among a (compared_lines p.accepted)). inl ((own p (inl refl)).0 a j))
    (λ (j : Among a (compared_lines (accepted_lines ps))). inr (of_one a ps (λ q k. own q (inr k)) j))
    (among_parts a (compared_lines p.accepted) (compared_lines (accepted_lines ps)) (subst (λ (z : List AcceptedRow). Among a z) (compared_over p.accepted (accepted_lines ps)) i))

all_once : (ps : List Party) → AreDifferent (numbers_of ps) → EachOwn ps → NoneTwice (compared_lines (accepted_lines ps))
all_once [] apart own = tt
all_once (p ∷ ps) apart own =
    subst NoneTwice (sym (compared_over p.accepted (accepted_lines ps)))
    (none_in_both (compared_lines p.accepted) (compared_lines (accepted_lines ps)) (own p (inl refl)).1 (all_once ps apart.1 (λ q k. own q (inr k)))
    (λ a i j. apart.0 (subst (λ (n : List ℕ). Among n (numbers_of ps)) ((own p (inl refl)).0 a i) (of_one a ps (λ q k. own q (inr k)) j))))

-- ---- in the world

at_number : (h : List ℕ) (x : Accepted) (ps : List Accepted) → Among x (accepted_at h ps) → x.handset ≡ h
at_number h x [] i = absurd i
at_number h x (p ∷ ps) i = ⊎_elim
    (λ (t : bytes_eq p.handset h ≡ true).
    ⊎_elim (λ (e : x ≡ p). ap (λ (z : Accepted). z.handset) e ∙ (bytes_eq-Decides p.handset h).0 t) (λ (j : Among x (accepted_at h ps)). at_number h x ps j)
    (subst (λ (z : List Accepted). Among x z) (cond-true (bytes_eq p.handset h) (p ∷ accepted_at h ps) (accepted_at h ps) t) i))
    (λ (t : bytes_eq p.handset h ≡ false).
    at_number h x ps (subst (λ (z : List Accepted). Among x z) (cond-false (bytes_eq p.handset h) (p ∷ accepted_at h ps) (accepted_at h ps) t) i))
    (cases_Bool (bytes_eq p.handset h))

pub since_there : (x : Accepted) (newest : List Accepted) (rows : List AcceptedRow) → Among x (pairs rows) → Among x (pairs_of newest rows)
since_there x newest [] i = absurd i
since_there x newest (a ∷ rows) i = ⊎_elim
    (λ (e : x ≡ pair_accepted a). still_there x (pair_accepted a ∷ newest) rows (inl e))
    (λ (j : Among x (pairs rows)). since_there x (pair_accepted a ∷ newest) rows j)
    i

pub as_any_pair : (a : AcceptedRow) (rows : List AcceptedRow) → Among a (compared_lines rows) → Among (of_line a) (pairs rows)
as_any_pair a [] i = absurd i
as_any_pair a (b ∷ rows) i = ⊎_elim
    (λ (e : a ≡ compared_line b). inl (ap of_line e))
    (λ (j : Among a (compared_lines rows)). inr (as_any_pair a rows j))
    i

module _ (c : PlayState) (w : World) (s : PlayRefines c w) (f : IsFaithful w) where
  -- a DELIVER was given to a part, so that it was accepted once
  by_holder : (x : Accepted) (g : Allocation) → Among g w.down → x ≡ pair_given g → Among x w.accepted → is_deliver x.tpdu ≡ true → (h : Holder) → g.holder ≡ h → OccursOnce x w.accepted
  by_holder x g i same among is (Part id n) e =
      subst (λ (z : Accepted). OccursOnce z w.accepted) (sym same)
      (no_part_twice w (sound_there w s.reached) f g id n i e (subst (λ (z : Accepted). Among z w.accepted) same among))
  by_holder x g i same among is (Report id) e =
      let known : IsKnown w.table w.receipts g (Report id) = subst (λ (h : Holder). IsKnown w.table w.receipts g h) e ((sound_there w s.reached).known g i) in
      absurd (status_is_other g.tpdu known.1.0 (subst (λ (z : Accepted). is_deliver z.tpdu ≡ true) same is) known.1.1)
  by_holder x g i same among is (Entry n) e = absurd (subst (λ (h : Holder). IsKnown w.table w.receipts g h) e ((sound_there w s.reached).known g i))
  by_holder x g i same among is (Memory n) e = absurd (subst (λ (h : Holder). IsKnown w.table w.receipts g h) e ((sound_there w s.reached).known g i))

  once_there : (x : Accepted) → Among x w.accepted → is_deliver x.tpdu ≡ true → OccursOnce x w.accepted
  once_there x i is =
      let g = (sound_there w s.reached).offered x i in
      by_holder x g.0 g.1.0 g.1.1 i is g.0.holder refl

  pub each_own : EachOwn c.parties
  each_own p i =
      let seen = (s.parties p i).accepted in
      let back : (x : Accepted) → Among x (pairs_of [] p.accepted) → Among x (accepted_at p.number w.accepted) = λ x j. subst (λ (z : List Accepted). Among x z) (sym seen) j in
      let number : (x : Accepted) → Among x (pairs_of [] p.accepted) → x.handset ≡ p.number = λ x j. at_number p.number x w.accepted (back x j) in
      let once : DeliversOnce (pairs_of [] p.accepted) = λ x j is.
      subst (λ (z : List Accepted). OccursOnce x z) seen (own_once p.number x w.accepted (number x j) (once_there x (among_own p.number x w.accepted (back x j)) is)) in (
        λ a j.
            number (of_line a) (since_there (of_line a) [] p.accepted (as_any_pair a p.accepted j)),
        none_twice [] p.accepted once,
      )

  pub lines_once : NoneTwice (compared_lines (report_of c).accepted)
  lines_once = all_once c.parties s.apart each_own
