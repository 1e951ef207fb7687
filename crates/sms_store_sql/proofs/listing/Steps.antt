-- Steps inside a transaction, one after another.
use Rattle.std.proofs.Common.{Result, Ok, Err, OnOk, IfOk, ℕ, ◌+◌, ◌<◌, List, take, length, get_or, IsTrue, refl, ◌∙◌}
use Rattle.std.proofs.lemmas.List.{take_more}
use Rattle.sqlite.specs.State.{State, KeepsCommit}
use Rattle.sms_rows.specs.declared.table.change.Change.{Change}
use Rattle.sms_rows.specs.table.Table.{all_applied, applied}
use Rattle.sms_rows.proofs.table.Tables.{all_applied_push}
use Rattle.sms_store_sql.specs.listing.Listing.{ListOf}
use Rattle.sms_store_sql.specs.listing.Inside.{Alters}

pub alters_none : {X : Type 0} (l : ListOf X) (s : State) → IsTrue s.is_open → IsTrue s.in_transaction → Alters l (λ xs. xs) s s
alters_none l s live inside = record {
  inside = record { was_open = live; is_open = live; now_is = refl; committed_is = refl; mode = inside };
  schema = λ has. has;
  changed = λ has xs held. held;
  others = λ has tree other free. refl;
}

pub alters_then : {X : Type 0} (l : ListOf X) (a b c : State) (f g : List X → List X) → Alters l f a b → Alters l g b c → Alters l (λ xs. g (f xs)) a c
alters_then l a b c f g p q = record {
  inside = record { was_open = p.inside.was_open; is_open = q.inside.is_open; now_is = refl; committed_is = q.inside.committed_is ∙ p.inside.committed_is; mode = q.inside.mode };
  schema = λ has. q.schema (p.schema has);
  changed = λ has xs held. q.changed (p.schema has) (f xs) (p.changed has xs held);
  others = λ has tree other free. q.others (p.schema has) tree other free ∙ p.others has tree other free;
}

-- one change more of a list of changes
pub alters_more : {X : Type 0} (l : ListOf X) (a b c : State) (changes : List (Change X)) (i : ℕ) (d : Change X) → i < length changes
    → Alters l (all_applied l.key (take i changes)) a b → Alters l (applied l.key (get_or changes i d)) b c → Alters l (all_applied l.key (take (i + 1) changes)) a c
alters_more l a b c changes i d low p q =
    let both = alters_then l a b c _ _ p q in
    record {
      inside = both.inside;
      schema = both.schema;
      changed = λ has xs held. rw (take_more changes i d low, all_applied_push l.key (take i changes) (get_or changes i d) xs) (both.changed has xs held);
      others = both.others;
    }

pub keeps_then : (a b c : State) → KeepsCommit a b → KeepsCommit b c → KeepsCommit a c
keeps_then a b c p q = record { was_open = λ h. p.was_open (q.was_open h); committed = λ h. q.committed h ∙ p.committed (q.was_open h) }

pub ok_then : {E A B : Type 0} (r : Result (Unit {0}) E) → (A → B) → OnOk r A → OnOk r B
ok_then (Ok x) f h = f h
ok_then (Err e) f h = tt

pub ok_both : {E A B C : Type 0} (r : Result (Unit {0}) E) → (A → B → C) → OnOk r A → OnOk r B → OnOk r C
ok_both (Ok x) f h k = f h k
ok_both (Err e) f h k = tt

pub if_ok : {X E : Type 0} {P Q : X → Type 0} (r : Result X E) → ((x : X) → P x → Q x) → IfOk r P → IfOk r Q
if_ok (Ok x) f h = f x h
if_ok (Err e) f h = tt
