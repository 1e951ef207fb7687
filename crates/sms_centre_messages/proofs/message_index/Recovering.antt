-- Rows that are put one by one, in the order of their keys.
use Rattle.std.proofs.Common.{◌≡◌, ℕ, zero, suc, ◌+◌, ◌<◌, List, [], ◌∷◌, ◌++◌, length, take, get_or, map, refl, sym, ◌∙◌, ap, arith}
use Rattle.std.specs.List.{AllByRecursion}
use Rattle.std.proofs.lemmas.List.{take_more}
use Rattle.sms_rows.specs.table.Table.{RowsInMemory, Rises, insert, put, without}
use Rattle.sms_rows.proofs.table.Tables.{insert_behind, without_behind}
use Rattle.sms_rows.proofs.table.Places.{above_at}
use Rattle.sms_centre_rows.specs.declared.messages.part.PartRow.{PartRow}
use Rattle.sms_centre_rows.specs.declared.messages.parts.PartEntry.{PartEntry}
use Rattle.sms_centre_rows.specs.messages.Messages.{part_key}
use Rattle.sms_centre_rows.specs.messages.PartEntries.{part_entry}
use Rattle.sms_centre_messages.specs.message_index.MessageIndex.{Represents, MessageIndexOf}

module _ {A : Type 0} (key : A → ℕ) where
  abbrev AllBelow : ℕ → List A → Type 0
  AllBelow n xs = AllByRecursion (λ (x : A). key x < n) xs

  without_below : (n : ℕ) (xs : List A) → AllBelow n xs → without key n xs ≡ xs
  without_below n [] below = refl
  without_below n (x ∷ xs) below =
      without_behind key n x xs (λ (e : key x ≡ n). let l = below.0 in absurd (omega (arith, e, l))) ∙ ap (λ (l : List A). x ∷ l) (without_below n xs below.1)

  insert_below : (y : A) (xs : List A) → AllBelow (key y) xs → insert key y xs ≡ xs ++ y ∷ []
  insert_below y [] below = refl
  insert_below y (x ∷ xs) below =
      insert_behind key y x xs (let l = below.0 in omega (arith, l)) ∙ ap (λ (l : List A). x ∷ l) (insert_below y xs below.1)

  below_at : (i : ℕ) (xs : List A) (d : A) → Rises key xs → i < length xs → AllBelow (key (get_or xs i d)) (take i xs)
  below_at i [] d rises l = absurd (omega (arith, l))
  below_at zero (x ∷ xs) d rises l = tt
  below_at (suc i) (x ∷ xs) d rises l = (above_at key (key x) i xs d rises.0 (omega (arith, l)), below_at i xs d rises.1 (omega (arith, l)))

  -- the next row of a list in order goes behind those before it
  pub put_next : (i : ℕ) (xs : List A) (d : A) → Rises key xs → i < length xs → put key (get_or xs i d) (take i xs) ≡ take (i + 1) xs
  put_next i xs d rises l =
      let below = below_at i xs d rises l in
      ap (λ (ys : List A). insert key (get_or xs i d) ys) (without_below (key (get_or xs i d)) (take i xs) below)
      ∙ insert_below (get_or xs i d) (take i xs) below ∙ sym (take_more xs i d l)

-- parts alone are held where no messages are
pub holds_parts : (k : MessageIndexOf) (parts : RowsInMemory PartEntry) (ps : List PartRow) → Represents k [] [] → parts.rows ≡ map part_entry ps → Rises part_key ps
    → Represents (record { names = k.names; messages = k.messages; parts = parts; deadlines = k.deadlines }) [] ps
holds_parts k parts ps h are rises = record {
  messages = h.messages;
  parts = are;
  deadlines = λ m a p. elim a [ ];
  message_keys = tt;
  part_keys = rises;
}
