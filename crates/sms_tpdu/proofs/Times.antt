-- Each time stamp field that is read is in the grammar, and each that is in the grammar is read.
use Rattle.std.proofs.Common.{◌≡◌, ℕ, List, [], ◌∷◌, ◌++◌, length, Ok, Option, Some, None, refl, sym, ap, subst, ◌∙◌, arith}
use Rattle.std.specs.Option.{ok_or}
use Rattle.sms_base.specs.Reading.{run_in, AreOctets}
use Rattle.sms_base.proofs.Steps.{bind_ok, ok_is, run_takes, run_again}
use Rattle.sms_base.specs.TimeStamp.{IsScts, scts_in}
use Rattle.sms_base.proofs.Stamps.{stamp_is_read, read_is_stamp}
use Rattle.sms_base.proofs.OctetLaws.{octets_behind}
use Rattle.sms_tpdu.specs.declared.fault.TpduFault.{TpduFault}
use Rattle.sms_tpdu.specs.declared.fault.TpduFault.TheVariants.{Truncated, BadTime}
use Rattle.sms_tpdu.specs.TimeReading.{completed, time_in}

-- a whole stamp is completed by nothing
pub whole_completed : (stamp rest : List ℕ) → length stamp ≡ 7 → completed (stamp ++ rest) ≡ stamp
whole_completed (a ∷ b ∷ c ∷ d ∷ e ∷ f ∷ g ∷ []) rest h = refl
whole_completed (a ∷ b ∷ c ∷ d ∷ e ∷ f ∷ g ∷ i ∷ xs) rest h = absurd (omega arith)
whole_completed [] rest h = absurd (omega arith)
whole_completed (a ∷ []) rest h = absurd (omega arith)
whole_completed (a ∷ b ∷ []) rest h = absurd (omega arith)
whole_completed (a ∷ b ∷ c ∷ []) rest h = absurd (omega arith)
whole_completed (a ∷ b ∷ c ∷ d ∷ []) rest h = absurd (omega arith)
whole_completed (a ∷ b ∷ c ∷ d ∷ e ∷ []) rest h = absurd (omega arith)
whole_completed (a ∷ b ∷ c ∷ d ∷ e ∷ f ∷ []) rest h = absurd (omega arith)

pub record TakesTime (xs : List ℕ) (m : ℕ) (rest : List ℕ) : Type 0 where
  pub text : List ℕ
  pub parts : xs ≡ text ++ rest
  pub is : IsScts text m
  pub rest_fits : AreOctets rest

pub ok_or_is : (o : Option ℕ) (m : ℕ) → ok_or o BadTime ≡ Ok m → o ≡ Some m
ok_or_is (Some n) m e = cc
ok_or_is None m e = absurd cc

pub time_takes : (xs : List ℕ) (x : ℕ × List ℕ) → AreOctets xs → time_in xs ≡ Ok x → TakesTime xs x.0 x.1
unfolding time_in
time_takes xs x fits e =
    let a = bind_ok (ok_or (scts_in (completed xs)) BadTime) _ x e in
    let b = bind_ok (run_in Truncated 7 xs) _ x a.2 in
    let p = run_takes Truncated 7 xs b.0 b.1 in
    let same : completed xs ≡ b.0.0 = ap completed p.0 ∙ whole_completed b.0.0 b.0.1 p.1 in
    let read : scts_in b.0.0 ≡ Some a.0 = ap scts_in (sym same) ∙ ok_or_is _ a.0 a.1 in
    let is = read_is_stamp b.0.0 a.0 p.1 read in
    subst (λ (y : ℕ × List ℕ). TakesTime xs y.0 y.1) (ok_is {E = TpduFault} (a.0, b.0.1) x b.2)
    (record { text = b.0.0; parts = p.0; is = is; rest_fits = octets_behind b.0.0 b.0.1 (subst AreOctets p.0 fits) })

pub stamp_len : (text : List ℕ) (m : ℕ) → IsScts text m → length text ≡ 7
stamp_len text m (q, b, small, (year, month, day, hour, minute, second, local, clock, lt, spelled, instant, fits)) = ap length spelled

pub time_again : (text : List ℕ) (m : ℕ) (rest : List ℕ) → IsScts text m → time_in (text ++ rest) ≡ Ok (m, rest)
unfolding time_in
time_again text m rest h =
    let len = stamp_len text m h in
    rw (whole_completed text rest len, stamp_is_read text m h, run_again Truncated 7 text rest len) refl
