-- A session has at most ten receipts that are unanswered; the eleventh goes once one was answered.
use Rattle.std.proofs.Common.{◌≡◌, ℕ, zero, suc, ◌+◌, [], ◌∷◌, length, true, refl}
use Rattle.std.specs.Prelude.{codes}
use Rattle.sms_centre_spec.specs.Draft.{Core, Draft, core_of}
use Rattle.sms_centre_spec.specs.CentreEvent.{submit_received, ticked, answered}
use Rattle.sms_centre_spec.proofs.Everything.{everything}
use Rattle.sms_centre_spec.proofs.Worked.{t0, handset_b, begun, sm}

-- so many messages that expire in a minute, to a handset that can't be reached
abbrev pub many : ℕ → Core
many zero = begun []
many (suc n) = core_of (submit_received 0 (sm handset_b 0 0 1 (codes "000000000100000R") (codes "hello") 0) (many n))

abbrev pub ended : Draft
ended = ticked (t0 + 60) (many 11)

ten : length ended.bindings.deliveries ≡ 10
unfolding everything
ten = refl

waits : (ticked (t0 + 600) (core_of ended)).bindings.deliveries ≡ []
unfolding everything
waits = refl

next_one : (answered 1 3 true (core_of ended)).bindings.deliveries ≡ record { session = 1; id = 11 } ∷ []
unfolding everything
next_one = refl

none_left : (answered 1 3 true (core_of (answered 1 2 true (core_of ended)))).bindings.deliveries ≡ []
unfolding everything
none_left = refl
