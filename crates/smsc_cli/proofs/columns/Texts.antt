-- The end of a text.
use Rattle.std.proofs.Common.{◌≡◌, ℕ, List, [], ◌∷◌, ◌++◌, length, sym, arith}
use Rattle.std.specs.Str.{chars}
use Rattle.std.proofs.lemmas.Str.{chars-nil}
use Rattle.std.proofs.lemmas.List.{append-nil}
use Rattle.smsc_cli.specs.columns.Columns.{on_line}

-- behind the last character nothing is to be put
pub text_ended : (out rest : List ℕ) → length rest ≡ 0 → out ≡ out ++ on_line (chars rest)
text_ended out [] e = let none : chars [] ≡ [] = chars-nil in rw none (sym (append-nil out))
text_ended out (x ∷ rest) e = absurd (omega arith)
