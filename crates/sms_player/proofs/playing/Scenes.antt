-- What there is to see of a script in play is what its course has.
use Rattle.std.proofs.Common.{◌≡◌, ℕ, zero, suc, ◌≤◌, List, [], ◌∷◌, get_or, length, arith, refl, ap}
use Rattle.sms_play.specs.judging.Premises.{accepted_at}
use Rattle.sms_play.specs.PlayState.{Party}

-- the handset that stands at a place has accepted what is accepted there
pub accepted_is : (place : ℕ) (ps : List Party) (p : Party) → ((d : Party) → p ≡ get_or ps place d) → p.accepted ≡ accepted_at place ps
accepted_is place [] p is = ap (λ (x : Party). x.accepted) (is (record p { accepted = [] }))
accepted_is zero (q ∷ ps) p is = ap (λ (x : Party). x.accepted) (is p)
accepted_is (suc place) (q ∷ ps) p is = accepted_is place ps p is

-- none stands past the last
pub none_accepted : (place : ℕ) (ps : List Party) → length ps ≤ place → [] ≡ accepted_at place ps
none_accepted place [] past = refl
none_accepted zero (q ∷ ps) past = absurd (omega (arith, past))
none_accepted (suc place) (q ∷ ps) past = none_accepted place ps (omega (arith, past))
