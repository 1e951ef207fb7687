-- A front of a text in which a line passes a limit is judged as the whole text.
use Rattle.std.proofs.Common.{◌≡◌, ℕ, ◌+◌, ◌<◌, ◌≤◌, ◌||◌, Bool, true, false, true≢false, cond, eqb, List, [], ◌∷◌, ◌++◌, length, Result, Ok, Err, ◌⊎◌, ⊎_elim, refl, sym, ap, ◌∙◌, subst, arith, append-nil, length-append}
use Rattle.std.specs.Prelude.{nat_lt}
use Rattle.std.proofs.lemmas.Bool.{ltb-true, lt-ltb, or_left, or_cases}
use Rattle.sms_base.proofs.Bools.{or_true}
use Rattle.sms_base.specs.Reading.{◌>>=◌}
use Rattle.sms_script.specs.Lines.{lines_of, onto}
use Rattle.sms_script.specs.Limits.{passes_limit, passes_from, passes_limits, IsEnoughOf}
use Rattle.sms_script.specs.ScriptReading.{longest_line}
use Rattle.sms_script.specs.WholeScript.{most_lines, beginning, blank, line_in, with_line, numbered, read_lines, script_in}
use Rattle.sms_script.specs.declared.fault.LineFault.{LineFault}
use Rattle.sms_script.specs.declared.line.Line.{Line}
use Rattle.sms_script.specs.declared.progress.Progress.{Progress}
use Rattle.sms_script.specs.declared.script.Script.{Script}
use Rattle.sms_script.proofs.LineLaws.{line_takes}
use Rattle.sms_script.proofs.ScriptLaws.{line_in_takes}

-- ---- the lines of a front

-- the lines are the first of the whole, of which the last may go on
Begins : List (List ℕ) → List (List ℕ) → Type 0
Begins [] whole = Unit {0}
Begins (line ∷ lines) [] = ⊥
Begins (line ∷ []) (other ∷ others) = (more : List ℕ) × (other ≡ line ++ more)
Begins (line ∷ next ∷ lines) (other ∷ others) = (other ≡ line) × Begins (next ∷ lines) others

begins_mark : (lines whole : List (List ℕ)) → Begins lines whole → Begins ([] ∷ lines) ([] ∷ whole)
unfolding Begins
begins_mark [] whole h = ([], refl)
begins_mark (line ∷ lines) whole h = (refl, h)

begins_onto : (octet : ℕ) (lines whole : List (List ℕ)) → Begins lines whole → Begins (onto octet lines) (onto octet whole)
unfolding Begins
begins_onto octet [] [] h = ([], refl)
begins_onto octet [] (other ∷ others) h = (other, refl)
begins_onto octet (line ∷ lines) [] h = absurd h
begins_onto octet (line ∷ []) (other ∷ others) h = (h.0, ap (λ (l : List ℕ). octet ∷ l) h.1)
begins_onto octet (line ∷ next ∷ lines) (other ∷ others) h = (ap (λ (l : List ℕ). octet ∷ l) h.0, h.1)

lines_begin : (front rest : List ℕ) → Begins (lines_of front) (lines_of (front ++ rest))
unfolding lines_of Begins
lines_begin [] rest = tt
lines_begin (octet ∷ front) rest = by (eqb octet 10) (lines_begin front rest) where
  by : (b : Bool) → Begins (lines_of front) (lines_of (front ++ rest)) →
      Begins (cond b ([] ∷ lines_of front) (onto octet (lines_of front))) (cond b ([] ∷ lines_of (front ++ rest)) (onto octet (lines_of (front ++ rest))))
  by true h = begins_mark (lines_of front) (lines_of (front ++ rest)) h
  by false h = begins_onto octet (lines_of front) (lines_of (front ++ rest)) h

-- ---- a line that passes a limit

longer_passes : (number : ℕ) (line more : List ℕ) → passes_limit number line ≡ true → passes_limit number (line ++ more) ≡ true
longer_passes number line more past = ⊎_elim
    (λ (many : nat_lt most_lines number ≡ true). or_left _ _ many)
    (λ (long : nat_lt longest_line (length line) ≡ true).
    let l = ltb-true longest_line (length line) long in
    let k = length-append line more in
    let is : nat_lt longest_line (length (line ++ more)) ≡ true = lt-ltb longest_line (length (line ++ more)) (omega arith) in
    ap (λ (b : Bool). nat_lt most_lines number || b) is ∙ or_true (nat_lt most_lines number))
    (or_cases (nat_lt most_lines number) (nat_lt longest_line (length line)) past)

-- it is not read
not_read : (progress : Progress) (line : List ℕ) (x : Progress × Line) → passes_limit progress.number line ≡ true → line_in progress line ≡ Ok x → ⊥
not_read progress line x past e = let read = line_in_takes progress.number progress.stage progress.events line x e in ⊎_elim
    (λ (many : nat_lt most_lines progress.number ≡ true). let l = ltb-true most_lines progress.number many in let k = read.counted in absurd (omega arith))
    (λ (long : nat_lt longest_line (length line) ≡ true). let l = ltb-true longest_line (length line) long in let k = (line_takes line x.1 read.says).0 in absurd (omega arith))
    (or_cases (nat_lt most_lines progress.number) (nat_lt longest_line (length line)) past)

bad_line : (progress : Progress) (line : List ℕ) → passes_limit progress.number line ≡ true → numbered progress.number (line_in progress line) ≡ Err progress.number
bad_line progress line past = by (line_in progress line) refl where
  by : (r : Result (Progress × Line) LineFault) → line_in progress line ≡ r → numbered progress.number r ≡ Err progress.number
  by (Ok x) e = absurd (not_read progress line x past e)
  by (Err fault) e = refl

both_bad : (progress : Progress) (script : Script) (line other : List ℕ) (lines others : List (List ℕ)) → passes_limit progress.number line ≡ true → passes_limit progress.number other ≡ true
    → read_lines progress script (line ∷ lines) ≡ read_lines progress script (other ∷ others)
both_bad progress script line other lines others one two =
    ap (λ (r : Result (Progress × Line) ℕ). r >>= (λ (next : Progress × Line). read_lines next.0 (with_line script next.1) lines)) (bad_line progress line one)
    ∙ sym (ap (λ (r : Result (Progress × Line) ℕ). r >>= (λ (next : Progress × Line). read_lines next.0 (with_line script next.1) others)) (bad_line progress other two))

-- ---- the reading

-- lines that begin alike are read alike, up to the one that passes a limit
go_alike : (progress : Progress) (script : Script) (line : List ℕ) (lines others : List (List ℕ)) → passes_from (progress.number + 1) lines ≡ true
    → ((next : Progress) (more : Script) → passes_from next.number lines ≡ true → read_lines next more lines ≡ read_lines next more others)
    → read_lines progress script (line ∷ lines) ≡ read_lines progress script (line ∷ others)
go_alike progress script line lines others past again = by (line_in progress line) refl where
  by : (r : Result (Progress × Line) LineFault) → line_in progress line ≡ r
      → (numbered progress.number r >>= (λ (next : Progress × Line). read_lines next.0 (with_line script next.1) lines))
      ≡ (numbered progress.number r >>= (λ (next : Progress × Line). read_lines next.0 (with_line script next.1) others))
  by (Ok x) e = again x.0 (with_line script x.1) (subst (λ (k : ℕ). passes_from k lines ≡ true) (sym (line_in_takes progress.number progress.stage progress.events line x e).number_is) past)
  by (Err fault) e = refl

reads_alike : (progress : Progress) (script : Script) (lines whole : List (List ℕ)) → Begins lines whole → passes_from progress.number lines ≡ true → read_lines progress script lines ≡ read_lines progress script whole
unfolding Begins
reads_alike progress script [] whole h past = absurd (true≢false (sym past))
reads_alike progress script (line ∷ lines) [] h past = absurd h
reads_alike progress script (line ∷ []) (other ∷ others) h past = ⊎_elim
    (λ (here : passes_limit progress.number line ≡ true). both_bad progress script line other [] others here
    (subst (λ (l : List ℕ). passes_limit progress.number l ≡ true) (sym h.1) (longer_passes progress.number line h.0 here)))
    (λ (no : false ≡ true). absurd (true≢false (sym no)))
    (or_cases (passes_limit progress.number line) false past)
reads_alike progress script (line ∷ next ∷ lines) (other ∷ others) h past = ⊎_elim
    (λ (here : passes_limit progress.number line ≡ true). both_bad progress script line other (next ∷ lines) others here
    (subst (λ (l : List ℕ). passes_limit progress.number l ≡ true) (sym h.0) here))
    (λ (later : passes_from (progress.number + 1) (next ∷ lines) ≡ true).
    go_alike progress script line (next ∷ lines) others later (λ q t. reads_alike q t (next ∷ lines) others h.1)
    ∙ ap (λ (l : List ℕ). read_lines progress script (l ∷ others)) (sym h.0))
    (or_cases (passes_limit progress.number line) (passes_from (progress.number + 1) (next ∷ lines)) past)

pub front_judged : (text front : List ℕ) → IsEnoughOf text front → script_in front ≡ script_in text
unfolding script_in passes_limits
front_judged text front enough = let rest : List ℕ = enough.0 in ⊎_elim
    (λ (none : rest ≡ []). ap (λ (t : List ℕ). read_lines beginning blank (lines_of t)) (sym (append-nil front) ∙ ap (λ (r : List ℕ). front ++ r) (sym none) ∙ sym enough.1))
    (λ (past : passes_from 1 (lines_of front) ≡ true). reads_alike beginning blank (lines_of front) (lines_of (front ++ rest)) (lines_begin front rest) past
    ∙ ap (λ (t : List ℕ). read_lines beginning blank (lines_of t)) (sym enough.1))
    enough.2
