-- Numbers and secrets of lines.
use Rattle.std.proofs.Common.{◌≡◌, ℕ, Bool, true, false, List, Option, Some, None, IfNone, [], ◌∷◌, ◌++◌, refl, sym, true≢false, ap, ◌∙◌, subst}
use Rattle.std.proofs.lemmas.Bool.{ne_eqb}
use Rattle.std.specs.Str.Iter.{LacksByte}
use denote.Ref.{Bor}
use Rattle.smsc_cli.specs.declared.words.secrets.SecretWords.{SecretWords}
use Rattle.smsc_cli.specs.words.Accounts.{IsCutAt}
use Rattle.smsc_cli.specs.words.Secrets.{AddsNoSecret, HasPlaceFor, SpellsSecret, is_number_text, is_secret_text, unended_of}
use Rattle.smsc_cli.proofs.words.Cuts.{no_cut, one_cut}

-- ---- one secret

-- what gives nothing refuses it
pub refused : {A : Type 0} (r : Option A) (text : List ℕ) → ((number secret : List ℕ) → SpellsSecret text number secret → ⊥)
    → IfNone r ((number secret : List ℕ) → SpellsSecret text number secret → ⊥)
refused None text h = h
refused (Some x) text h = tt

pub no_colon : (text number secret : List ℕ) → LacksByte 58 text → SpellsSecret text number secret → ⊥
no_colon text number secret h s = no_cut 58 text number secret h s.cut.parts

pub parts_are : (text before behind number secret : List ℕ) → IsCutAt 58 text before behind → SpellsSecret text number secret → (number ≡ before) × (secret ≡ behind)
parts_are text before behind number secret cut s = one_cut 58 number before secret behind s.cut.first cut.first (sym s.cut.parts ∙ cut.parts)

pub bad_number : (text before behind : List ℕ) → IsCutAt 58 text before behind → is_number_text before ≡ false → (number secret : List ℕ) → SpellsSecret text number secret → ⊥
bad_number text before behind cut bad number secret s =
    true≢false (sym s.is_number ∙ (ap is_number_text (parts_are text before behind number secret cut s).0 ∙ bad))

pub bad_secret : (text before behind : List ℕ) → IsCutAt 58 text before behind → is_secret_text behind ≡ false → (number secret : List ℕ) → SpellsSecret text number secret → ⊥
bad_secret text before behind cut bad number secret s =
    true≢false (sym s.is_secret ∙ (ap is_secret_text (parts_are text before behind number secret cut s).1 ∙ bad))

-- ---- one more of several

pub no_room : (text number secret : List ℕ) (old seen : List SecretWords) (has : Bool) → seen ≡ old → has ≡ false → (HasPlaceFor number seen → has ≡ true) → SpellsSecret text number secret
    → AddsNoSecret text old
no_room text number secret old seen has same lacks found t n s spells room =
    let is : n ≡ number = (parts_are text number secret n s t.cut spells).0 in
    let yes : has ≡ true = found (subst (λ (l : List SecretWords). HasPlaceFor number l) (sym same) (subst (λ (x : List ℕ). HasPlaceFor x old) is room)) in
    absurd (true≢false (sym yes ∙ lacks))

-- ---- a line feed at the end

unended_line : (line : List ℕ) → unended_of (line ++ 10 ∷ []) ≡ line
unfolding unended_of
unended_line [] = refl
unended_line (c ∷ []) = refl
unended_line (c ∷ d ∷ ds) = ap (λ l. c ∷ l) (unended_line (d ∷ ds))

pub unended_already : (text : List ℕ) → ((front : List ℕ) → text ≡ front ++ 10 ∷ [] → ⊥) → unended_of text ≡ text
unfolding unended_of
unended_already [] none = refl
unended_already (c ∷ []) none = rw (ne_eqb c 10 (λ e. none [] (ap (λ x. x ∷ []) e))) refl
unended_already (c ∷ d ∷ ds) none = ap (λ l. c ∷ l) (unended_already (d ∷ ds) (λ front e. none (c ∷ front) (ap (λ l. c ∷ l) e)))

pub stripped : (text : List ℕ) (x : Bor (List ℕ)) → text ≡ x.now ++ 10 ∷ [] → x.now ≡ unended_of text
stripped text x e = sym (ap unended_of e ∙ unended_line x.now)
