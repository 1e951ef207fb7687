-- A new centre sees the empty world, and one that comes back sees what its rows show.
use Rattle.std.proofs.Common.{◌≡◌, ℕ, ◌≤◌, ◌<◌, arith, List, [], ◌∷◌, true, false, refl, sym, subst, ⊎_elim, Option, Some, None}
use Rattle.std.specs.Prelude.{max}
use Rattle.std.specs.Option.{option_map}
use Rattle.sms_base.specs.Among.{Among}
use Rattle.sms_rows.specs.table.Table.{row_at}
use Rattle.sms_rows.proofs.table.Tables.{found_among}
use Rattle.sms_link.specs.declared.ending.Side.TheVariants.{Centre}
use Rattle.sms_link.specs.LinkTurn.{new_link}
use Rattle.sms_centre_spec.specs.CentreEvent.{after_messages, after_references, after_reports, links_awaited, links_up, moment_of}
use Rattle.sms_centre_spec.specs.Draft.{rows_of}
use Rattle.sms_centre_spec.specs.declared.rows.Rows.{Rows}
use Rattle.sms_centre_rows.specs.declared.reports.report.ReportRow.{ReportRow}
use Rattle.sms_centre_rows.specs.waiting.Keys.{reference_key}
use Rattle.sms_rows.specs.table.Keys.{pair_key}
use Rattle.sms_centre_rows.specs.waiting.References.{handset_at}
use Rattle.sms_centre_rows.specs.declared.waiting.handset.HandsetRow.{HandsetRow}
use Rattle.sms_centre_rows.specs.declared.waiting.handset_link.HandsetLink.{HandsetLink}
use Rattle.sms_centre_rows.specs.declared.waiting.reference.ReferenceRow.{ReferenceRow}
use Rattle.sms_world_model.specs.World.{Sent}
use Rattle.sms_world_model.proofs.Allocations.{seen_again}
use Rattle.sms_world.specs.centres_refine_the_world.CentreLaws.{BackLaw, FirstLaw}
use Rattle.sms_world.proofs.centres_refine_the_world.ByOctets.{by_octet_some}
use Rattle.sms_world.specs.headline.SeenWorld.{by_octet}
use Rattle.sms_world.specs.centres_refine_the_world.RefinesGiven.{second_at, seconds_by}
use Rattle.sms_world.specs.centres_refine_the_world.RefinesLinks.{RefinesLink, RefinesLinks}

-- ---- new links

awaited_see : (bag : List Sent) (ns : List (List ℕ)) → RefinesLinks bag (links_awaited ns)
awaited_see bag [] link i = absurd i
awaited_see bag (n ∷ ns) link i = ⊎_elim
    (λ (e : link ≡ record { handset = n; is_up = false; is_awaited = true; is_full = false; near_end = new_link Centre }).
    subst (λ (z : HandsetLink). RefinesLink bag z) (sym e) (record { next = (let l : 0 < 7 = omega arith in l); opened = tt; begun = tt }))
    (λ (a : Among link (links_awaited ns)). awaited_see bag ns link a) i

up_see : (bag : List Sent) (ns : List (List ℕ)) → RefinesLinks bag (links_up ns)
up_see bag [] link i = absurd i
up_see bag (n ∷ ns) link i = ⊎_elim
    (λ (e : link ≡ record { handset = n; is_up = true; is_awaited = false; is_full = false; near_end = new_link Centre }).
    subst (λ (z : HandsetLink). RefinesLink bag z) (sym e) (record { next = (let l : 0 < 7 = omega arith in l); opened = tt; begun = tt }))
    (λ (a : Among link (links_up ns)). up_see bag ns link a) i

-- ---- no reference was given later than what rows have seen

later_reports : (n : ℕ) (rs : List ReportRow) → n ≤ after_reports n rs
later_reports n [] = omega arith
later_reports n (r ∷ rs) = let x = later_reports (max n r.made) rs in omega (arith, x)

later_references : (n : ℕ) (rs : List ReferenceRow) → n ≤ after_references n rs
later_references n [] = omega arith
later_references n (r ∷ rs) = let x = later_references (max n r.last) rs in omega (arith, x)

seen_reference : (n : ℕ) (x : ReferenceRow) (rs : List ReferenceRow) → Among x rs → x.last ≤ after_references n rs
seen_reference n x [] i = absurd i
seen_reference n x (r ∷ rs) i = ⊎_elim
    (λ (e : x ≡ r). subst (λ (z : ReferenceRow). z.last ≤ after_references (max n r.last) rs) (sym e) (let y = later_references (max n r.last) rs in omega (arith, y)))
    (λ (a : Among x rs). seen_reference (max n r.last) x rs a) i

preserved_row : (o : Option ReferenceRow) (second : ℕ) → option_map (λ (r : ReferenceRow). r.last) o ≡ Some second → (r : ReferenceRow) × ((o ≡ Some r) × (r.last ≡ second))
preserved_row None second e = absurd cc
preserved_row (Some r) second e = (r, (refl, cc))

past_at : (h : Option HandsetRow) (reference second : ℕ) (rows : Rows) → second_at h reference rows.references ≡ Some second → second ≤ moment_of rows
past_at None reference second rows e = absurd cc
past_at (Some h) reference second rows e =
    let x = preserved_row (row_at reference_key (pair_key h.place reference) rows.references) second e in
    let a = found_among reference_key (pair_key h.place reference) x.0 rows.references x.1.0 in
    let n : ℕ = after_messages rows.setup.start rows.messages in
    let l : x.0.last ≤ after_references n rows.references = seen_reference n x.0 rows.references a in
    let y : after_references n rows.references ≤ moment_of rows = later_reports (after_references n rows.references) rows.reports in
    subst (λ (z : ℕ). z ≤ moment_of rows) x.1.1 (omega (arith, l, y))

never : (n second : ℕ) → by_octet n None ≡ Some second → ⊥
never n second e = let x = (by_octet_some n (let none : Option ℕ = None in none) second e).1 in cc

-- ---- the laws

pub reached_back : BackLaw
reached_back b bag d handsets sessions w s =
    let rows : Rows = rows_of d.store in
    record {
      frames = refl;
      whole = tt;
      links = awaited_see bag handsets;
      rows = record {
        table = s.rows.table;
        reports = s.rows.reports;
        holders = s.rows.holders;
        seconds = seen_again (seconds_by rows.handsets rows.references) w.down d.store.moment (moment_of rows) s.rows.seconds
            (λ handset reference second e. past_at (handset_at handset rows.handsets) reference second rows
            (by_octet_some reference (second_at (handset_at handset rows.handsets) reference rows.references) second e).1);
      };
    }

pub first_refines : FirstLaw
first_refines setup handsets sessions = record {
  frames = refl;
  whole = tt;
  links = up_see [] handsets;
  rows = record {
    table = record { there = λ id m e. absurd cc; only = λ id u st e. absurd cc };
    reports = record { there = λ id r e. absurd cc; only = λ x i. absurd i; still = λ id r e k n. absurd cc; opened = λ id i. absurd i };
    holders = record { part = λ id number m p e f. absurd cc; report = λ id reference tpdu m r e f k. absurd cc; of_part = λ g id number i e. absurd i; of_report = λ g id i e. absurd i };
    seconds = record {
      all = λ g i. absurd i;
      real = λ handset reference second e. absurd (never reference second e);
      past = λ handset reference second e. absurd (never reference second e);
    };
  };
}
