-- One header for elements, and what is cut off one.
use Rattle.std.proofs.Common.{◌≡◌, ℕ, ◌<◌, List, [], ◌∷◌, ◌++◌, length, Err, refl, sym, ap, ◌∙◌, arith}
use Rattle.std.specs.Prelude.{◌↔◌}
use Rattle.std.proofs.lemmas.Bool.{lt-ltb}
use Rattle.std.proofs.lemmas.List.{length-append}
use Rattle.sms_base.specs.Reading.{run_in}
use Rattle.sms_base.proofs.Steps.{ok_is}
use Rattle.sms_alphabet.specs.declared.element.Element.{Element}
use Rattle.sms_alphabet.specs.declared.header_error.HeaderError.{HeaderError}
use Rattle.sms_alphabet.specs.declared.header_error.HeaderError.TheVariants.{Truncated}
use Rattle.sms_alphabet.specs.HeaderGrammar.{spelled, written, header_at}
use Rattle.sms_alphabet.proofs.Elements.{written_is_read}

pub one_header : (one other : List Element) → (written one ≡ written other) ↔ (one ≡ other)
one_header one other = (there, ap written) where
  there : written one ≡ written other → one ≡ other
  there e =
      let same : header_at (written one ++ []) ≡ header_at (written other ++ []) = ap (λ (l : List ℕ). header_at (l ++ [])) e in
      ok_is {E = HeaderError} one other (sym (written_is_read one []) ∙ same ∙ written_is_read other [])

pub cut_header : (elements : List Element) (front rest : List ℕ) → front ++ rest ≡ written elements → 0 < length rest → header_at front ≡ Err Truncated
unfolding header_at run_in
cut_header elements [] rest e some = refl
cut_header elements (size ∷ front) rest e some =
    let first : size ≡ length (spelled elements) = cc in
    let tail : front ++ rest ≡ spelled elements = cc in
    let short : length front < size = omega (arith, ap length tail, length-append front rest) in
    rw (lt-ltb (length front) size short) refl
