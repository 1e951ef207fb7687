use Rattle.std.proofs.Common.{subst, sym, ◌+◌}
use Rattle.sms_store_sql.proofs.listing.Characters.{Spelled, spelled_more}
use Rattle.sms_store_sql.proofs.listing.reading.text_of.Goals as goal

pub loop-character-preserved : goal.loop-character-preserved
loop-character-preserved c =
    let i = c.loop-character.character-index in
    subst (λ text. Spelled c.args.characters.now text (i + 1)) (sym c.in_ok-put_character.ensures.text)
    (spelled_more c.args.characters.now _ i c.character-item.result c.loop-character.invariant c.loop-character-test.true c.character-item.is c.in_ok-put_character.ensures.is_character)
