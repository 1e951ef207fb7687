use Rattle.std.proofs.Common.{String, Global, ◌++◌, ◌∷◌, ◌∙◌, ℕ, List, [], Ok, sym, ap}
use Rattle.std.specs.String.{string_bytes}
use Rattle.std.specs.Str.{chars}
use Rattle.std.proofs.lemmas.Str.{IsUtf8-string_bytes}
use Rattle.std.proofs.lemmas.Result.{err_from_is_err_and}
use Rattle.sms_alphabet.proofs.Ucs2Steps.{decodes_start, decodes_turn, decodes_end, character_shorter, answered_fault, some_left, none_left, utf8_text, utf8_more}
use Rattle.sms_alphabet.proofs.ucs2.read.Goals as goal

pub loop-rest-init : goal.loop-rest-init
loop-rest-init c = ([], c.requires, rw c.of-rest.ensures (decodes_start c.args.octets.now))

pub returns-in_err-character : goal.returns-in_err-character
returns-in_err-character c =
    let l = c.loop-rest in
    let some = some_left l.rest c.is_empty.result c.is_empty.ensures c.loop-rest-test.true in
    let p = err_from_is_err_and c.from_residual.result c.from_residual.ensures.1 in
    rw (p.1, p.2) (answered_fault (λ (text : String Global). chars (string_bytes text)) c.args.octets.now l.rest l.invariant.0 c.in_err-character.field-0.0 some c.in_err-character.ensures l.invariant.2)

pub loop-rest-preserved : goal.loop-rest-preserved
loop-rest-preserved c =
    let l = c.loop-rest in
    let some = some_left l.rest c.is_empty.result c.is_empty.ensures c.loop-rest-test.true in (
      l.invariant.0 ++ c.in_ok-character.character ∷ [],
      c.in-Ok.ensures.bytes ∙ utf8_more (string_bytes l.text) l.invariant.0 c.in_ok-character.character l.invariant.1,
      decodes_turn c.args.octets.now l.rest l.invariant.0 c.in_ok-character.character c.character.new.octets some c.in_ok-character.ensures l.invariant.2,
    )

pub loop-rest-smaller : goal.loop-rest-smaller
loop-rest-smaller c = character_shorter c.loop-rest.rest c.in_ok-character.character c.character.new.octets c.in_ok-character.ensures

pub returns : goal.returns
returns c =
    let l = c.loop-rest in
    let none = none_left l.rest c.is_empty.result c.is_empty.ensures c.loop-rest-test.false in
    let read = utf8_text (string_bytes l.text) l.invariant.0 (IsUtf8-string_bytes l.text) l.invariant.1 in
    decodes_end c.args.octets.now l.rest l.invariant.0 none l.invariant.2 ∙ ap (λ (s : List ℕ). Ok s) (sym read)
