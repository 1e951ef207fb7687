-- What words that ask for something give, and what their faults are.
use Rattle.std.proofs.Common.{◌≡◌, ◌-◌, ℕ, List, Bool, true, false, Result, Err, arith, drop, length, take, true≢false, refl, sym, ◌∙◌}
use Rattle.std.proofs.lemmas.List.{length-drop, take_all}
use Rattle.std.specs.Prelude.{MatchBool}
use Rattle.smsc_cli.specs.declared.words.accounts.FileFault.{FileFault}
use Rattle.smsc_cli.specs.declared.words.accounts.FileFault.TheVariants.{BadLine, NoMemory as NoMemoryOfFile}
use Rattle.smsc_cli.specs.declared.words.fault.WordsFault.{WordsFault}
use Rattle.smsc_cli.specs.declared.words.fault.WordsFault.TheVariants.{BadWords, NoMemory}

-- the only fault beside bad words
pub memory_else : (fault : WordsFault) → (fault ≡ BadWords → ⊥) → fault ≡ NoMemory
memory_else BadWords never = absurd (never refl)
memory_else NoMemory never = refl

-- a bad line is one of bad words, and has the number of the line
pub bad_line : {A : Type 0} (fault : WordsFault) (number bad : ℕ) (out : FileFault) → (fault ≡ BadWords → out ≡ BadLine number) → (fault ≡ NoMemory → out ≡ NoMemoryOfFile)
    → ◌≡◌ {A = Result A FileFault} (Err out) (Err (BadLine bad)) → (fault ≡ BadWords) × (bad ≡ number)
bad_line BadWords number bad out words memory e =
    let said : out ≡ BadLine bad = cc in
    let is : BadLine number ≡ BadLine bad = sym (words refl) ∙ said in
    let same : bad ≡ number = cc in
    (refl, same)
bad_line NoMemory number bad out words memory e =
    let said : out ≡ BadLine bad = cc in
    let is : NoMemoryOfFile ≡ BadLine bad = sym (memory refl) ∙ said in
    absurd cc

pub when_true : {A : Type 0} (B : Type 0) (b : Bool) → b ≡ true → MatchBool b A B → A
when_true B true e h = h
when_true B false e h = absurd (true≢false (sym e))

-- a slice from the second element on
pub whole_rest : {A : Type 0} (l : List A) → take (length l - 1) (drop 1 l) ≡ drop 1 l
whole_rest l = take_all (length l - 1) (drop 1 l) (let e = length-drop 1 l in omega (arith, e))
