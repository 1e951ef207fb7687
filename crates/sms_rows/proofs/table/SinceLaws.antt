-- Tables in the middle of an event: what stages need is by computing, and what is committed follows once for all.
use Rattle.std.proofs.Common.{◌≡◌, ℕ, List, [], ◌∷◌, refl, ap, ◌∙◌}
use Rattle.sms_rows.specs.declared.table.change.Change.{Change}
use Rattle.sms_rows.specs.table.Table.{put, without, applied, all_applied}
use Rattle.sms_rows.specs.table.Since.{Since, rows_after, rows_of, put_in, take_out, oldest_first}
use Rattle.sms_rows.proofs.table.Tables.{all_applied_push}

pub rows_put : {A : Type 0} (key : A → ℕ) (x : A) (t : Since A) → rows_of key (put_in x t) ≡ put key x (rows_of key t)
rows_put key x t = refl

pub rows_taken : {A : Type 0} (key : A → ℕ) (n : ℕ) (t : Since A) → rows_of key (take_out n t) ≡ without key n (rows_of key t)
rows_taken key n t = refl

-- what is committed, the oldest first, leads to the rows as they stand
pub commits : {A : Type 0} (key : A → ℕ) (cs : List (Change A)) (base : List A) → all_applied key (oldest_first cs) base ≡ rows_after key cs base
commits key [] base = refl
commits key (c ∷ cs) base = all_applied_push key (oldest_first cs) c base ∙ ap (λ rows. applied key c rows) (commits key cs base)
