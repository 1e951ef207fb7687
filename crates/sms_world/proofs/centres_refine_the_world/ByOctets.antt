-- What an octet finds.
use Rattle.std.proofs.Common.{◌≡◌, ℕ, ◌<◌, true, false, Option, Some, None, sym, ◌∙◌, ⊎_elim}
use Rattle.std.specs.Prelude.{nat_lt}
use Rattle.std.proofs.lemmas.Bool.{cases_Bool, cond-false, cond-true, lt-ltb, ltb-true}
use Rattle.std.proofs.lemmas.Option.{none-some}
use Rattle.sms_world.specs.headline.SeenWorld.{by_octet}

pub by_octet_is : {A : Type 0} (n : ℕ) (o : Option A) → n < 256 → by_octet n o ≡ o
by_octet_is n o small = cond-true (nat_lt n 256) o None (lt-ltb n 256 small)

pub by_octet_some : {A : Type 0} (n : ℕ) (o : Option A) (x : A) → by_octet n o ≡ Some x → (n < 256) × (o ≡ Some x)
by_octet_some n o x e = ⊎_elim
    (λ (t : nat_lt n 256 ≡ true). (ltb-true n 256 t, sym (cond-true (nat_lt n 256) o None t) ∙ e))
    (λ (t : nat_lt n 256 ≡ false). absurd (none-some x (sym (cond-false (nat_lt n 256) o None t) ∙ e)))
    (cases_Bool (nat_lt n 256))

pub by_octet_same : {A : Type 0} (n : ℕ) (o z : Option A) → (n < 256 → o ≡ z) → by_octet n o ≡ by_octet n z
by_octet_same n o z f = ⊎_elim
    (λ (t : nat_lt n 256 ≡ true). cond-true (nat_lt n 256) o None t ∙ f (ltb-true n 256 t) ∙ sym (cond-true (nat_lt n 256) z None t))
    (λ (t : nat_lt n 256 ≡ false). cond-false (nat_lt n 256) o None t ∙ sym (cond-false (nat_lt n 256) z None t))
    (cases_Bool (nat_lt n 256))
