-- An owner's line with a number is a script's.
use Rattle.std.proofs.Common.{◌≡◌, ℕ, Bool, true, List, [], ◌∷◌, Result, Ok, Err, refl}
use Rattle.std.specs.Prelude.{codes}
use Rattle.sms_base.specs.Reading.{◌>>=◌}
use Rattle.sms_script.specs.Keywords.{keyword_of}
use Rattle.sms_script.specs.Lines.{is_word}
use Rattle.sms_script.specs.Numbers.{flag_of, number_of}
use Rattle.sms_script.specs.ScriptReading.{act_in, word_in, field_in, text_in, write_in as script_write_in, delete_in as script_delete_in, discard_in as script_discard_in}
use Rattle.sms_script.specs.declared.event.Act.{Act}
use Rattle.sms_script.specs.declared.event.Act.TheVariants.{Write as ScriptWrite, Delete as ScriptDelete, Discard as ScriptDiscard}
use Rattle.sms_script.specs.declared.fault.LineFault.{LineFault}
use Rattle.sms_script.specs.declared.owner.act.OwnersAct.{OwnersAct}
use Rattle.sms_script.specs.declared.owner.act.OwnersAct.TheVariants.{Write, Delete, Discard}
use Rattle.sms_script.specs.owner.OwnersLines.{write_in, delete_in, discard_in}
use Rattle.sms_script.specs.owner.ScriptsLines.{read_in_script}

abbrev Read : Type 0 → Type 0
Read X = Result (X × List (List ℕ)) LineFault

text_same : (number to : List ℕ) (report : Bool) (r : Read (List ℕ)) → (r >>= λ text. let a : Read Act = Ok (ScriptWrite number to report text.0, text.1) in a) ≡ read_in_script number (r >>= λ text. let a : Read OwnersAct = Ok (Write to report text.0, text.1) in a)
text_same number to report (Ok text) = refl
text_same number to report (Err fault) = refl

report_same : (number to : List ℕ) (r : Read Bool)
    → (r >>= λ report. field_in text_in report.1 >>= λ text. let a : Read Act = Ok (ScriptWrite number to report.0 text.0, text.1) in a)
    ≡ read_in_script number (r >>= λ report. field_in text_in report.1 >>= λ text. let a : Read OwnersAct = Ok (Write to report.0 text.0, text.1) in a)
report_same number to (Ok report) = text_same number to report.0 (field_in text_in report.1)
report_same number to (Err fault) = refl

to_same : (number : List ℕ) (r : Read (List ℕ))
    → (r >>= λ to. field_in flag_of to.1 >>= λ report. field_in text_in report.1 >>= λ text. let a : Read Act = Ok (ScriptWrite number to.0 report.0 text.0, text.1) in a)
    ≡ read_in_script number (r >>= λ to. field_in flag_of to.1 >>= λ report. field_in text_in report.1 >>= λ text. let a : Read OwnersAct = Ok (Write to.0 report.0 text.0, text.1) in a)
to_same number (Ok to) = report_same number to.0 (field_in flag_of to.1)
to_same number (Err fault) = refl

pub write_same : (number : List ℕ) (words : List (List ℕ)) → is_word number ≡ true → act_in (codes "write" ∷ number ∷ words) ≡ read_in_script number (write_in words)
unfolding act_in keyword_of script_write_in write_in
write_same number words e = rw e (to_same number (word_in words))

delete_entry : (number : List ℕ) (r : Read ℕ) → (r >>= λ entry. let a : Read Act = Ok (ScriptDelete number entry.0, entry.1) in a) ≡ read_in_script number (r >>= λ entry. let a : Read OwnersAct = Ok (Delete entry.0, entry.1) in a)
delete_entry number (Ok entry) = refl
delete_entry number (Err fault) = refl

pub delete_same : (number : List ℕ) (words : List (List ℕ)) → is_word number ≡ true → act_in (codes "delete" ∷ number ∷ words) ≡ read_in_script number (delete_in words)
unfolding act_in keyword_of script_delete_in delete_in
delete_same number words e = rw e (delete_entry number (field_in number_of words))

discard_entry : (number : List ℕ) (r : Read ℕ) → (r >>= λ entry. let a : Read Act = Ok (ScriptDiscard number entry.0, entry.1) in a) ≡ read_in_script number (r >>= λ entry. let a : Read OwnersAct = Ok (Discard entry.0, entry.1) in a)
discard_entry number (Ok entry) = refl
discard_entry number (Err fault) = refl

pub discard_same : (number : List ℕ) (words : List (List ℕ)) → is_word number ≡ true → act_in (codes "discard" ∷ number ∷ words) ≡ read_in_script number (discard_in words)
unfolding act_in keyword_of script_discard_in discard_in
discard_same number words e = rw e (discard_entry number (field_in number_of words))
