-- What was looked at, and the verdict, with an event.
use Rattle.std.proofs.Common.{◌≡◌, ℕ, suc, ◌+◌, arith, ◌<◌, List, [], ◌++◌, length, drop, Bool, true, false, refl, sym, ◌∙◌, ap, subst, Option, Some, None}
use Rattle.std.specs.Prelude.{not, if◌then◌else◌, nat_eq, slice_index}
use Rattle.sms_centre_rows.specs.declared.messages.part.PartRow.{PartRow}
use Rattle.sms_play.specs.PlayState.{PlayState, Party}
use Rattle.sms_play.specs.Premises.{all_pairs, are_fresh, is_fresh_event, is_timely_event, newest_first, pairs_of, part_allocations}
use Rattle.sms_script.specs.declared.report.Broken.{Broken}
use Rattle.sms_script.specs.declared.report.Broken.TheVariants.{Reused, Timely}
use Rattle.sms_script.specs.declared.report.rows.AcceptedRow.{AcceptedRow}
use Rattle.sms_script.specs.declared.report.rows.GivenRow.{GivenRow}
use Rattle.sms_script.specs.declared.event.WorldEvent.{WorldEvent}
use Rattle.sms_world_model.specs.World.{Accepted, Allocation}
use Rattle.sms_play.specs.growth.Growth.{Grows, HaveParts}
use Rattle.sms_play.specs.judging.Judging.{AreCounts, Judged, Knows, KnowsTo, looked}
use Rattle.sms_play.specs.judging.Premises.{IsNewPlay, accepted_at, reused, untimely}
use Rattle.sms_play.specs.judging.Watching.{HasAccepted, Watches}
use Rattle.sms_play.specs.declared.judging.premises.Judge.{Judge}
use Rattle.sms_play.specs.declared.judging.watch.Watch.{Watch}
use Rattle.sms_play.proofs.judging.Accepting.{accepted_as, at_end, counts_on, no_counts, no_pairs, pairs_next, same_length}
use Rattle.sms_play.proofs.judging.Looking.{down_is, fresh_is, have_all, rows_are}

some_broken : (x : Broken) → Some x ≡ None → ⊥
some_broken x e = absurd cc

-- ---- what was given

module _ (before after : PlayState) (old : Judge) (goes : Grows before after) (knows : Knows before old) where
  abbrev parts_after : List PartRow
  parts_after = after.centre.rows.parts

  abbrev down_before : List Allocation
  down_before = newest_first [] (part_allocations before.centre.rows.parts before.given)

  -- the rows behind those that were looked at
  pub rows_behind : drop old.given after.given ≡ goes.more
  rows_behind = ap (λ (n : ℕ). drop n after.given) knows.given ∙ rows_are before after goes knows.have_parts

  pub verdict_given : (fresh : Bool) (rows : List GivenRow) → rows ≡ goes.more → fresh ≡ are_fresh (part_allocations parts_after rows) down_before (all_pairs before.parties) → fresh ≡ is_fresh_event before after
  verdict_given fresh rows e told =
      told ∙ ap (λ (z : List GivenRow). are_fresh (part_allocations parts_after z) down_before (all_pairs before.parties)) e ∙ fresh_is before after goes knows.have_parts

  pub watch_given : (w : Watch) (rows : List GivenRow) → rows ≡ goes.more → Watches (before.given ++ rows) (newest_first down_before (part_allocations parts_after rows)) (all_pairs before.parties) w
      → Watches after.given (newest_first [] (part_allocations parts_after after.given)) (all_pairs before.parties) w
  watch_given w rows e told =
      let given : before.given ++ rows ≡ after.given = ap (λ (z : List GivenRow). before.given ++ z) e ∙ sym goes.given in
      let down : newest_first down_before (part_allocations parts_after rows) ≡ newest_first [] (part_allocations parts_after after.given) =
      ap (λ (z : List GivenRow). newest_first down_before (part_allocations parts_after z)) e ∙ down_is before after goes knows.have_parts in
      subst (λ (z : List Allocation). Watches after.given z (all_pairs before.parties) w) down
      (subst (λ (z : List GivenRow). Watches z (newest_first down_before (part_allocations parts_after rows)) (all_pairs before.parties) w) given told)

  pub given_have_parts : HaveParts parts_after after.given
  given_have_parts = have_all before after goes knows.have_parts

-- ---- what was accepted

module _ (before after : PlayState) (place : ℕ) (goes : Grows before after) (there : place < length before.parties) where
  pub watch_accepted : (given : List GivenRow) (down : List Allocation) (n : ℕ) (rows : List AcceptedRow) (w : Watch) → n ≡ length (accepted_at place (looked place before.parties after.parties)) → rows ≡ accepted_at place after.parties
      → Watches given down (pairs_of (all_pairs (looked place before.parties after.parties)) (drop n rows)) w → Watches given down (all_pairs (looked (suc place) before.parties after.parties)) w
  watch_accepted given down n rows w counted is told = record {
    holders = told.holders;
    rounds = told.rounds;
    pairs = accepted_as (pairs_of (all_pairs (looked place before.parties after.parties)) (drop n (accepted_at place after.parties))) (all_pairs (looked (suc place) before.parties after.parties)) w.accepted.entries
        (λ x. pairs_next x place n before.parties after.parties goes.parties there counted)
        (subst (λ (z : List AcceptedRow). HasAccepted (pairs_of (all_pairs (looked place before.parties after.parties)) (drop n z)) w.accepted.entries) is told.pairs);
  }

  pub counts_accepted : (old new : List ℕ) (rows : List AcceptedRow) → rows ≡ accepted_at place after.parties → AreCounts old (looked place before.parties after.parties)
      → ((k : ℕ) → slice_index new k ≡ (if nat_eq place k then length rows else slice_index old k)) → AreCounts new (looked (suc place) before.parties after.parties)
  counts_accepted old new rows is was put =
      counts_on place before.parties after.parties old new goes.parties there was
      (subst (λ (z : List AcceptedRow). (k : ℕ) → slice_index new k ≡ (if nat_eq place k then length z else slice_index old k)) is put)

one_more : (n : ℕ) → n + 1 ≡ suc n
one_more n = omega arith

-- one place more
pub next_known : (before after : PlayState) (place : ℕ) (old new : Judge) (goes : Grows before after) → place < length before.parties → KnowsTo place before after old
    → (rows : List AcceptedRow) → rows ≡ accepted_at place after.parties
    → ((given : List GivenRow) (down : List Allocation) (accepted : List Accepted) → Watches given down accepted old.watch → Watches given down (pairs_of accepted (drop (slice_index old.accepted.items place) rows)) new.watch)
    → ((k : ℕ) → slice_index new.accepted.items k ≡ (if nat_eq place k then length rows else slice_index old.accepted.items k)) → new.given ≡ old.given → KnowsTo (place + 1) before after new
next_known before after place old new goes there known rows is watched counted given =
    subst (λ (n : ℕ). KnowsTo n before after new) (sym (one_more place)) (record {
      given = given ∙ known.given;
      accepted = counts_accepted before after place goes there old.accepted.items new.accepted.items rows is known.accepted counted;
      have_parts = known.have_parts;
      watch = watch_accepted before after place goes there after.given (newest_first [] (part_allocations after.centre.rows.parts after.given)) (slice_index old.accepted.items place) rows new.watch (known.accepted place) is
          (watched after.given (newest_first [] (part_allocations after.centre.rows.parts after.given)) (all_pairs (looked place before.parties after.parties)) known.watch);
    })

-- all handsets were looked at
pub all_known : (before after : PlayState) (n : ℕ) (j : Judge) → Grows before after → n ≡ length after.parties → KnowsTo n before after j → Knows after j
all_known before after n j goes e knows =
    let end : looked n before.parties after.parties ≡ after.parties =
    ap (λ (k : ℕ). looked k before.parties after.parties) (e ∙ same_length before.parties after.parties goes.parties) ∙ at_end before.parties after.parties goes.parties in
    record {
      given = knows.given;
      accepted = subst (λ (ps : List Party). AreCounts j.accepted.items ps) end knows.accepted;
      have_parts = knows.have_parts;
      watch = subst (λ (ps : List Party). Watches after.given (newest_first [] (part_allocations after.centre.rows.parts after.given)) (all_pairs ps) j.watch) end knows.watch;
    }

-- ---- the verdict

pub not_reused : (number : ℕ) (before after : PlayState) (fresh : Bool) → fresh ≡ is_fresh_event before after → fresh ≡ true → reused number before after ≡ None
not_reused number before after fresh e t = ap (λ (b : Bool). if not b then Some (Reused number) else None) (sym e ∙ t)

pub is_reused : (number : ℕ) (before after : PlayState) (fresh : Bool) → fresh ≡ is_fresh_event before after → fresh ≡ false → reused number before after ≡ Some (Reused number)
is_reused number before after fresh e f = ap (λ (b : Bool). if not b then Some (Reused number) else None) (sym e ∙ f)

pub not_untimely : (number : ℕ) (e : WorldEvent) (c : PlayState) (timely : Bool) → timely ≡ is_timely_event e c → timely ≡ true → untimely number e c ≡ None
not_untimely number e c timely same t = ap (λ (b : Bool). if not b then Some (Timely number) else None) (sym same ∙ t)

pub is_untimely : (number : ℕ) (e : WorldEvent) (c : PlayState) (timely : Bool) → timely ≡ is_timely_event e c → timely ≡ false → untimely number e c ≡ Some (Timely number)
is_untimely number e c timely same f = ap (λ (b : Bool). if not b then Some (Timely number) else None) (sym same ∙ f)

-- nothing is broken, and all was looked at
pub judged_none : (o : Option Broken) (c : PlayState) (j : Judge) → j.broken ≡ None → o ≡ None → Knows c j → Judged o c j
judged_none o c j broken e knows = record { verdict = broken ∙ sym e; knows = λ q. knows }

-- something is
pub judged_some : (o : Option Broken) (x : Broken) (c : PlayState) (j : Judge) → j.broken ≡ Some x → o ≡ Some x → Judged o c j
judged_some o x c j broken e = record { verdict = broken ∙ sym e; knows = λ q. absurd (some_broken x (sym e ∙ q)) }

pub judged_new : (c : PlayState) (j : Judge) → IsNewPlay c → j.broken ≡ None → j.given ≡ 0 → j.accepted.items ≡ [] → Watches [] [] [] j.watch → Judged None c j
judged_new c j new broken given counts watch =
    judged_none None c j broken refl (record {
      given = given ∙ ap (λ (z : List GivenRow). length z) (sym new.given);
      accepted = subst (λ (z : List ℕ). AreCounts z c.parties) (sym counts) (no_counts c.parties new.parties);
      have_parts = subst (λ (z : List GivenRow). HaveParts c.centre.rows.parts z) (sym new.given) tt;
      watch = subst (λ (ps : List Accepted). Watches c.given (newest_first [] (part_allocations c.centre.rows.parts c.given)) ps j.watch) (sym (no_pairs c.parties new.parties))
          (subst (λ (z : List GivenRow). Watches z (newest_first [] (part_allocations c.centre.rows.parts z)) [] j.watch) (sym new.given) watch);
    })
