-- Which references are held by what waits.
use Rattle.std.proofs.Common.{◌≡◌, ℕ, ◌==◌, ◌||◌, List, [], ◌∷◌, ◌++◌, ap, ◌∙◌}
use Rattle.sms_base.proofs.Bools.{or_assoc, or_false}
use Rattle.sms_centre_rows.specs.waiting.References.{is_held}
use Rattle.sms_centre_rows.specs.declared.waiting.queued_part.QueuedPart.{QueuedPart}

-- one more that waits
is_held_push : (r : ℕ) (ls : List QueuedPart) (l : QueuedPart) → is_held r (ls ++ l ∷ []) ≡ (is_held r ls || l.reference == r)
is_held_push r [] l = or_false (l.reference == r)
is_held_push r (x ∷ ls) l = ap (λ b. x.reference == r || b) (is_held_push r ls l) ∙ or_assoc (x.reference == r) (is_held r ls) (l.reference == r)

-- one more behind others
pub is_held_behind : (r : ℕ) (others ls : List QueuedPart) (l : QueuedPart) → is_held r (others ++ (ls ++ l ∷ [])) ≡ (is_held r (others ++ ls) || l.reference == r)
is_held_behind r [] ls l = is_held_push r ls l
is_held_behind r (x ∷ others) ls l =
    ap (λ b. x.reference == r || b) (is_held_behind r others ls l) ∙ or_assoc (x.reference == r) (is_held r (others ++ ls)) (l.reference == r)
