-- Texts with an asterisk at their end, and what spells a source.
use Rattle.std.proofs.Common.{◌≡◌, ℕ, List, [], ◌∷◌, ◌++◌, Bool, true, false, length, refl, sym, ◌∙◌, ap, arith}
use Rattle.std.proofs.lemmas.Bool.{and_from, and_parts, ne_eqb}
use Rattle.std.specs.Prelude.{◌||◌, ◌↔◌}
use Rattle.std.specs.List.{list_all}
use denote.Ref.{Bor}
use Rattle.toml.specs.Data.{as_str, no_items}
use Rattle.toml.specs.View.{items_view, view}
use Rattle.toml.specs.declared.value.Value.{Value}
use Rattle.smsc_cli.specs.words.AccountTables.{AreSources, SpellsSource, ends_starred, is_name_text, is_prefix, is_source, is_text_of_source, unstarred}
use Rattle.smsc_cli.specs.words.Secrets.{is_number_text}
use Rattle.smsc_cli.specs.declared.words.account_tables.SourceWords.{SourceWords}
use Rattle.smsc_cli.specs.declared.words.account_tables.SourceWords.TheVariants.{Number, Prefix, Name}

pub spelled_source : (text : List ℕ) (source : SourceWords) → SpellsSource text source → is_source text ≡ true
spelled_source text (Number digits) k = ap (λ (b : Bool). (b || is_prefix text) || is_name_text text) k.1
spelled_source text (Prefix digits) k =
    ap (λ (b : Bool). (b || is_prefix text) || is_name_text text) k.0 ∙ ap (λ (b : Bool). (false || b) || is_name_text text) k.1
spelled_source text (Name name) k =
    ap (λ (b : Bool). (b || is_prefix text) || is_name_text text) k.0 ∙ ap (λ (b : Bool). (false || b) || is_name_text text) k.1 ∙ k.3

-- ---- an asterisk at the end

front_of : (front : List ℕ) → unstarred (front ++ 42 ∷ []) ≡ front
unfolding unstarred
front_of [] = refl
front_of (c ∷ []) = refl
front_of (c ∷ d ∷ ds) = ap (λ l. c ∷ l) (front_of (d ∷ ds))

is_starred : (front : List ℕ) → ends_starred (front ++ 42 ∷ []) ≡ true
unfolding ends_starred
is_starred [] = refl
is_starred (c ∷ []) = refl
is_starred (c ∷ d ∷ ds) = is_starred (d ∷ ds)

pub starred : (text : List ℕ) (x : Bor (List ℕ)) → text ≡ x.now ++ 42 ∷ [] → (x.now ≡ unstarred text) × (ends_starred text ≡ true)
starred text x e = (sym (ap unstarred e ∙ front_of x.now), ap ends_starred e ∙ is_starred x.now)

pub not_starred : (text : List ℕ) → ((front : List ℕ) → text ≡ front ++ 42 ∷ [] → ⊥) → ends_starred text ≡ false
unfolding ends_starred
not_starred [] none = refl
not_starred (c ∷ []) none = ne_eqb c 42 (λ e. none [] (ap (λ x. x ∷ []) e))
not_starred (c ∷ d ∷ ds) none = not_starred (d ∷ ds) (λ front e. none (c ∷ front) (ap (λ l. c ∷ l) e))

-- ---- several

are_so : (values : List Value) → list_all (λ (value : Value). is_text_of_source (as_str (view value))) values ≡ true → AreSources (items_view values)
are_so [] e = tt
are_so (value ∷ values) e =
    let both = and_parts (is_text_of_source (as_str (view value))) (list_all (λ (v : Value). is_text_of_source (as_str (view v))) values) e in
    (both.0, are_so values both.1)

so_are : (values : List Value) → AreSources (items_view values) → list_all (λ (value : Value). is_text_of_source (as_str (view value))) values ≡ true
so_are [] a = refl
so_are (value ∷ values) a =
    and_from (is_text_of_source (as_str (view value))) (list_all (λ (v : Value). is_text_of_source (as_str (view v))) values) a.0 (so_are values a.1)

pub all_sources : (values : List Value) → (list_all (λ (value : Value). is_text_of_source (as_str (view value))) values ≡ true) ↔ AreSources (items_view values)
all_sources values = (are_so values, so_are values)

pub some_items : (values : List Value) → (length values ≡ 0) ↔ (items_view values ≡ no_items)
some_items [] = (λ e. refl, λ e. refl)
some_items (value ∷ values) = (λ e. absurd (omega (arith, e)), λ e. absurd cc)
