-- The unit in which a TPDU is offered.
use Rattle.std.proofs.Common.{◌≡◌, ◌<◌, ◌≤◌, ℕ, ◌+◌, List, [], ◌∷◌, Bool, length, refl, ◌∙◌, ap, arith}
use Rattle.sms_relay.specs.RelayGrammar.{data_down}
use Rattle.sms_relay.proofs.UnitLengths.{down_long}
use Rattle.sms_tpdu.specs.MoreMessages.{with_more_messages}

pub telling_long : (more : Bool) (tpdu : List ℕ) → length (with_more_messages more tpdu) ≡ length tpdu
telling_long more [] = refl
telling_long more (x ∷ xs) = refl

-- RP-DATA of a TPDU that fits has 1 to 248 octets
pub down_fits : (r : ℕ) (centre tpdu unit : List ℕ) → unit ≡ data_down r centre tpdu → length centre ≤ 11 → length tpdu ≤ 232 → (0 < length unit) × (length unit ≤ 248)
down_fits r centre tpdu unit is c t =
    let long : length unit ≡ 5 + length centre + length tpdu = ap (λ (o : List ℕ). length o) is ∙ down_long r centre tpdu in
    (omega (arith, long), omega (arith, long, c, t))
