-- A body of a group: one that it put, or one of the store.
use Rattle.std.proofs.Common.{◌≡◌, ◌⊎◌, inl, inr, ℕ, List, Option, Some, None, Result, Ok, Err, sym, ap, ◌∙◌}
use Rattle.sms_rows.specs.declared.keep.refusals.Refusals.{Refusals}
use Rattle.sms_rows.specs.keep.KeepState.{KeepState}
use Rattle.sms_rows.specs.keep.StoreOutcome.{EndsWith}
use Rattle.sms_centre_spec.specs.declared.rows.Changes.{Changes}
use Rattle.sms_centre_spec.specs.declared.rows.Rows.{Rows}
use Rattle.sms_centre_group.specs.Grouping.{grouped, grouped_body}
use Rattle.sms_centre_group.specs.Newest.{first_of, put_octets}

module _ (body_of : Rows → ℕ → Option (List ℕ)) (base : Rows) (held now : Changes) (key : ℕ) (same : held ≡ now) where
  pub put_so : (octets : List ℕ) → Some octets ≡ put_octets now key → Some octets ≡ grouped_body body_of (base, held) key
  put_so octets e = ap (λ (o : Option (List ℕ)). first_of o (body_of base key)) (e ∙ ap (λ (h : Changes). put_octets h key) (sym same))

  pub body_ends : {E : Type 0} (state : KeepState Rows) (refusals : Refusals) → None ≡ put_octets now key → (r : Result (Option (List ℕ)) E)
      → EndsWith (λ b. b ≡ body_of base key) base base state r
      → EndsWith (λ b. b ≡ grouped_body body_of (base, held) key) (base, held) (base, held) (grouped state now refusals) r
  body_ends state refusals none (Ok body) ends =
      (ends.0 ∙ ap (λ (o : Option (List ℕ)). first_of o (body_of base key)) (none ∙ ap (λ (h : Changes). put_octets h key) (sym same)), (ends.1, same))
  body_ends state refusals none (Err e) (inl kept) = inl (kept, same)
  body_ends state refusals none (Err e) (inr closed) = inr closed
