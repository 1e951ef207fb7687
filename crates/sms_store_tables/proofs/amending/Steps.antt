-- Changes, one after another.
use Rattle.std.proofs.Common.{ℕ, ◌+◌, ◌<◌, List, take, length, get_or}
use Rattle.std.proofs.lemmas.List.{take_more}
use Rattle.sqlite.specs.State.{State}
use Rattle.sms_centre_rows.specs.declared.waiting.progress.Progress.{Progress}
use Rattle.sms_centre_rows.specs.declared.waiting.revision.Revision.{Revision}
use Rattle.sms_centre_rows.specs.waiting.Revisions.{all_revised, revised}
use Rattle.sms_centre_rows.proofs.waiting.Revising.{revised_push}
use Rattle.sms_store_sql.specs.listing.Listing.{ListOf}
use Rattle.sms_store_sql.specs.listing.Inside.{Alters}
use Rattle.sms_store_sql.proofs.listing.Steps.{alters_then}

-- one change more of a list of changes
pub revises_more : {X : Type 0} (l : ListOf X) (reaching : Progress → X → X) (a b c : State) (changes : List (Revision X)) (i : ℕ) (d : Revision X) → i < length changes
    → Alters l (all_revised l.key reaching (take i changes)) a b → Alters l (revised l.key reaching (get_or changes i d)) b c → Alters l (all_revised l.key reaching (take (i + 1) changes)) a c
revises_more l reaching a b c changes i d low p q =
    let both = alters_then l a b c _ _ p q in
    record {
      inside = both.inside;
      schema = both.schema;
      changed = λ has xs held. rw (take_more changes i d low, revised_push l.key reaching (take i changes) (get_or changes i d) xs) (both.changed has xs held);
      others = both.others;
    }
