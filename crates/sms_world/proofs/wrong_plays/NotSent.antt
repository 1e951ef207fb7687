-- An entry that counts as sent, of which the centre has no message, or one to another handset.
use Rattle.std.proofs.Common.{arith, ◌≡◌, ℕ, List, [], refl, sym, ◌∙◌, ap, inl, ⊎_elim}
use Rattle.sms_centre_rows.specs.declared.messages.message.MessageRow.{MessageRow}
use Rattle.sms_world.specs.wrong_plays.Plays.{entry, from_writer, party, writers_core}
use Rattle.sms_world.specs.wrong_plays.Told.{SentElsewhereLaw, SentOfNoneLaw}
use Rattle.sms_world.specs.wrong_reports.Literals.{writer}
use Rattle.std.specs.Prelude.{length}

pub of_none : SentOfNoneLaw
of_none all = (all (party writer [] writers_core) entry (inl refl) (inl refl) refl).2.there

pub elsewhere : SentElsewhereLaw
elsewhere all =
    let x = all (party writer [] writers_core) entry (inl refl) (inl refl) refl in
    ⊎_elim
    (λ (e : x.0 ≡ record from_writer { handset = writer }).
    let q : 11 ≡ 12 = ap (λ (h : List ℕ). length h) (sym (ap (λ (m : MessageRow). m.handset) e) ∙ x.2.handset) in let l : ⊥ = omega (arith, q) in l)
    (λ (n : ⊥). n)
    x.2.there
