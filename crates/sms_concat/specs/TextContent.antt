-- The content of a text: in the default alphabet where each character has a code there, else in UCS2 (3GPP TS 23.038 4).
use Rattle.std.specs.Prelude.{ℕ, List, Result, Ok, Err}
use Rattle.sms_alphabet.specs.declared.scheme.Coding.TheVariants.{Septets, Ucs2}
use Rattle.sms_alphabet.specs.declared.spelling.SpellingError.{SpellingError}
use Rattle.sms_alphabet.specs.Spelling.{spelled}
use Rattle.sms_alphabet.specs.Ucs2.{ucs2_for}
use Rattle.sms_concat.specs.declared.content.Content.{Content}

abbrev pub content_spelled : List ℕ → Result (List ℕ) SpellingError → Content
content_spelled text (Ok septets) = record { coding = Septets; dcs = 0; units = septets }
content_spelled text (Err fault) = record { coding = Ucs2; dcs = 8; units = ucs2_for text }

abbrev pub content_of_text : List ℕ → Content
content_of_text text = content_spelled text (spelled text)
