-- A part as the world sees it. A message has at most twenty, so their numbers are octets.
use Rattle.std.proofs.Common.{◌≡◌, ℕ, ◌<◌, ◌≤◌, arith, refl, Option, Some, None}
use Rattle.sms_centre_rows.specs.declared.messages.part.PartRow.{PartRow}
use Rattle.sms_tpdu.specs.MoreMessages.{compared}
use Rattle.sms_world.specs.headline.SeenWorld.{PartSeen, part_seen}

abbrev pub seen_of : PartRow → PartSeen
seen_of p = record { reference = p.reference; tpdu = compared p.tpdu; is_done = p.progress.is_done }

pub none_seen : (x : PartSeen) → part_seen None ≡ Some x → ⊥
none_seen x e = absurd cc

pub row_seen : (o : Option PartRow) (x : PartSeen) → part_seen o ≡ Some x → (p : PartRow) × (o ≡ Some p)
row_seen None x e = absurd (none_seen x e)
row_seen (Some p) x e = (p, refl)

-- ---- numbers

pub small : (n : ℕ) → n ≤ 20 → n < 256
small n l = omega (arith, l)

pub one_is_small : 1 < 256
one_is_small = omega arith

pub only_one : (n : ℕ) → 0 < n → n ≤ 1 → n ≡ 1
only_one n a b = omega (arith, a, b)
