-- A submission becomes a message: it is entered, and each part takes the reference that comes next.
use Rattle.std.proofs.Common.{◌≡◌, ◌⊎◌, ℕ, zero, suc, ◌+◌, ◌*◌, ◌<◌, ◌≤◌, arith, List, [], ◌∷◌, Bool, true, false, refl, sym, ◌∙◌, ap, subst, inl, inr, ⊎_elim, Option, Some, None, length}
use Rattle.std.specs.Prelude.{slice_get, ◌==◌}
use Rattle.std.specs.Option.{option_and_then}
use Rattle.std.proofs.lemmas.Bool.{cases_eq, cond-false, ne_eqb}
use Rattle.sms_base.specs.Among.{Among}
use Rattle.sms_base.specs.TimeStamp.{IsMoment}
use Rattle.sms_base.specs.declared.holder.Holder.TheVariants.{Part, Report}
use Rattle.sms_intake.specs.PartBodies.{deliver_octets, deliver_of}
use Rattle.sms_intake.specs.declared.submission.SinglePart.{SinglePart}
use Rattle.sms_intake.specs.declared.submission.Submission.{Submission as SubmissionRow}
use Rattle.sms_centre_rows.specs.messages.Messages.{message_at, message_key, part_at, part_key}
use Rattle.sms_centre_rows.specs.messages.SoundMessages.{IsDeliver}
use Rattle.sms_centre_rows.specs.declared.messages.message.MessageRow.{MessageRow}
use Rattle.sms_centre_rows.specs.declared.messages.part.PartRow.{PartRow}
use Rattle.sms_centre_rows.proofs.reports.AllWaiting.{report_found}
use Rattle.sms_centre_rows.specs.reports.Reports.{report_of}
use Rattle.sms_rows.specs.table.Keys.{pair_key}
use Rattle.sms_rows.specs.table.Table.{put}
use Rattle.sms_rows.proofs.table.Tables.{found_among, found_key, row_at_put, row_at_put_other}
use Rattle.sms_tpdu.specs.MoreMessages.{compared}
use Rattle.sms_tpdu.specs.declared.user_data.UserData.{UserData}
use Rattle.sms_centre_rows.proofs.waiting.WaitingSound.{next_is_free}
use Rattle.sms_centre_rows.specs.waiting.References.{handset_of}
use Rattle.sms_centre_rows.specs.declared.waiting.handset.HandsetRow.{HandsetRow}
use Rattle.sms_centre_spec.proofs.SoundStores.{SoundStore}
use Rattle.sms_centre_spec.proofs.AcceptedConsistent.{Entered, enter_consistent, part_consistent}
use Rattle.sms_centre_spec.proofs.TpdusRead.{part_reads}
use Rattle.sms_centre_spec.specs.Draft.{Store, handsets_in, messages_in, parts_in, references_in, reports_in, waiting_in, with_given}
use Rattle.sms_centre_spec.specs.Consistent.{IsBody, IsSubmission}
use Rattle.sms_centre_spec.specs.Submitting.{accept_under, data_coding_of, enter, give_parts, message_of, part_given, put_part_of, reference_for}
use Rattle.sms_world_model.proofs.Alike.{deliver_alike}
use Rattle.sms_world_model.proofs.Allocations.{gave}
use Rattle.sms_world_model.proofs.Tables.{entered_back, entered_here}
use Rattle.sms_world_model.specs.LastAllocations.{RefinesAllocations}
use Rattle.sms_world_model.specs.References.{CanGive, CanGiveParts, IsForPart, Ticket, given_parts, part_allocation}
use Rattle.sms_world_model.specs.Submission.{HasPart, Submission, IsDeliverOf}
use Rattle.sms_world_model.specs.World.{Allocation, Message, Pending, IsRecorded, State, World, find, give}
use Rattle.sms_world_model.specs.WorldStep.{CanSubmit, IsUnusedId, submitted}
use Rattle.sms_world.proofs.centres_refine_the_world.ByOctets.{by_octet_is, by_octet_same, by_octet_some}
use Rattle.sms_world.proofs.centres_refine_the_world.Allocations.{RefinesStates, can_give, preserved_given, seen_part, seen_report}
use Rattle.std.proofs.lemmas.Option.{slice_get_within}
use Rattle.sms_world.specs.centres_refine_the_world.CentreRefinement.{StoreRefines}
use Rattle.sms_world.specs.centres_refine_the_world.RefinesGiven.{RefinesHolders, given_part, seconds_by}
use Rattle.sms_world.specs.headline.SeenWorld.{IsInTable, IsStateOf, PartSeen, is_handset, messages_by, part_seen, parts_by, wish_of}
use Rattle.sms_world.specs.centres_refine_the_world.RefinesReports.{ReportSeen, RefinesReports, reports_by}

-- the user data of each
abbrev pub data_of : List SinglePart → List UserData
data_of [] = []
data_of (b ∷ bs) = record { length = b.length; octets = b.octets } ∷ data_of bs

-- what the world knows of a submission
abbrev pub entered_as : ℕ → SubmissionRow → Bool → List SinglePart → Submission
entered_as id u header bodies = record {
  id = id;
  source = u.source;
  handset = u.handset;
  protocol_identifier = u.protocol_identifier;
  data_coding_scheme = data_coding_of u.text;
  reply_path = u.reply_path;
  user_data_header_indicator = header;
  limit = u.limit;
  wish = wish_of u.wish;
  by_report = is_handset u.originator;
  parts = data_of bodies;
}

-- Of the message, the parts below a number have their references.
pub record Entering (id submitted : ℕ) (split : Option ℕ) (u : SubmissionRow) (whole : Submission) (k : ℕ) (s : Store) (w : World) : Type 0 where
  pub entered : Entered (message_of id submitted split u) s
  pub most : (i : ℕ) (x : MessageRow) → message_at i (messages_in s) ≡ Some x → ¬ (i ≡ id) → IsInTable x (parts_by (parts_in s) i) w.table
  pub only : (i : ℕ) (v : Submission) (st : State) → IsRecorded w.table i v st → (x : MessageRow) × (message_at i (messages_in s) ≡ Some x)
  pub own : IsRecorded w.table id whole (Pending [])
  pub holders : RefinesHolders (messages_by (messages_in s)) (parts_by (parts_in s)) (reports_by (reports_in s)) w.down
  pub reports : RefinesReports (reports_by (reports_in s)) w.receipts w.reports
  pub seconds : RefinesAllocations (seconds_by (handsets_in s) (references_in s)) w.down s.moment
  pub before : (j : ℕ) (p : PartSeen) → parts_by (parts_in s) id j ≡ Some p → (0 < j) × (j < k) × (p.is_done ≡ false)
  pub all : (j : ℕ) → 0 < j → j < k → (p : PartSeen) × (parts_by (parts_in s) id j ≡ Some p)

pub cases_pair : (i id j k : ℕ) → ((i ≡ id) × (j ≡ k)) ⊎ ¬ ((i ≡ id) × (j ≡ k))
cases_pair i id j k = ⊎_elim
    (λ (e : i ≡ id). ⊎_elim (λ (f : j ≡ k). inl (e, f)) (λ (f : j ≡ k → ⊥). inr (λ b. f b.1)) (cases_eq j k))
    (λ (e : i ≡ id → ⊥). inr (λ b. e b.0))
    (cases_eq i id)

module _ (id submitted : ℕ) (split : Option ℕ) (u : SubmissionRow) (header : Bool) (bodies : List SinglePart) (fit : IsSubmission u) where
  abbrev row : MessageRow
  row = message_of id submitted split u

  abbrev whole : Submission
  whole = entered_as id u header bodies

  abbrev Now : ℕ → Store → World → Type 0
  Now k s w = Entering id submitted split u (entered_as id u header bodies) k s w

  -- the rows say of it, as of every message, whether it is pending
  states_now : (k : ℕ) (s : Store) (w : World) → Now k s w → RefinesStates (messages_by (messages_in s)) (parts_by (parts_in s)) w.table
  states_now k s w e i x at = ⊎_elim
      (λ (same : i ≡ id).
      let both : Some row ≡ Some x = sym e.entered.1 ∙ ap (λ (j : ℕ). message_at j (messages_in s)) (sym same) ∙ at in
      let is : row ≡ x = cc in
      subst (λ (y : MessageRow). (v : Submission) × (st : State) × (IsRecorded w.table y.id v st × IsStateOf y.state (parts_by (parts_in s) i) st)) is (
        whole,
        Pending [],
        (
          e.own,
          (
            [],
            (
              refl,
              λ number p there.
                  let b = e.before number p (ap (λ (j : ℕ). parts_by (parts_in s) j number) (sym same) ∙ there) in (
                    (λ t. let bad : true ≡ false = sym t ∙ b.2 in absurd cc),
                    (λ a. absurd a),
                  ),
            ),
          ),
        ),
      ))
      (λ (ne : i ≡ id → ⊥). let y = e.most i x at ne in (y.0, y.1, (y.2.0, y.2.2)))
      (cases_eq i id)

  module _ (k : ℕ) (b : SinglePart) (r : ℕ) (s : Store) (w : World) (e : Now k s w) (next : reference_for (handset_of u.handset (handsets_in s)) s ≡ Some r) (some : 0 < k) (small : k < 256) where
    abbrev part_now : PartRow
    part_now = record {
      id = id;
      number = k;
      reference = r;
      tpdu = deliver_octets s.moment u b;
      key = b.key;
      progress = record { is_done = false; attempts = 0; due = u.due };
    }

    abbrev seen_now : PartSeen
    seen_now = record { reference = r; tpdu = compared (deliver_octets s.moment u b); is_done = false }

    abbrev given_now : Allocation
    given_now = given_part (message_of id submitted split u) k (record { reference = r; tpdu = compared (deliver_octets s.moment u b); is_done = false }) s.moment

    abbrev store_now : Store
    store_now = put_part_of id u k b r (with_given (handset_of u.handset (handsets_in s)) r s)

    few : r < 256
    few = let h : HandsetRow = handset_of u.handset (handsets_in s) in (next_is_free h (waiting_in h.number s) (references_in s) s.moment r next).1

    own_part : (i j : ℕ) → i ≡ id → j ≡ k → parts_by (parts_in store_now) i j ≡ Some seen_now
    own_part i j p q =
        ap (λ (x : ℕ). parts_by (parts_in store_now) x j) p ∙ ap (λ (x : ℕ). parts_by (parts_in store_now) id x) q
        ∙ by_octet_is k (part_seen (part_at id k (parts_in store_now))) small ∙ ap part_seen (row_at_put part_key part_now (parts_in s))

    other_part : (i j : ℕ) → ¬ ((i ≡ id) × (j ≡ k)) → parts_by (parts_in store_now) i j ≡ parts_by (parts_in s) i j
    other_part i j ne =
        by_octet_same j (part_seen (part_at i j (parts_in store_now))) (part_seen (part_at i j (parts_in s)))
        (λ octet. ap part_seen (row_at_put_other part_key (pair_key i j) part_now (parts_in s) (λ key. ne (alike key octet, number key octet))))
      where
        alike : 256 * id + k ≡ 256 * i + j → j < 256 → i ≡ id
        alike key octet = omega (arith, key, octet, small)

        number : 256 * id + k ≡ 256 * i + j → j < 256 → j ≡ k
        number key octet = omega (arith, key, octet, small)

    not_before : (i j : ℕ) (p : PartSeen) → parts_by (parts_in s) i j ≡ Some p → ¬ ((i ≡ id) × (j ≡ k))
    not_before i j p there (same, is) =
        let x = e.before j p (ap (λ (y : ℕ). parts_by (parts_in s) y j) (sym same) ∙ there) in
        let low : j < k = x.1 in
        let l : ⊥ = omega (arith, low, is) in l

    holders_now : RefinesHolders (messages_by (messages_in s)) (parts_by (parts_in store_now)) (reports_by (reports_in s)) (given_now ∷ w.down)
    holders_now = record {
      part = λ i j x p at there. ⊎_elim
          (λ (q : (i ≡ id) × (j ≡ k)).
          let parts : Some seen_now ≡ Some p = sym (own_part i j q.0 q.1) ∙ there in
          let part : seen_now ≡ p = cc in
          let rows : Some row ≡ Some x = sym e.entered.1 ∙ ap (λ (y : ℕ). message_at y (messages_in s)) (sym q.0) ∙ at in
          let is : row ≡ x = cc in
          let found : (moment : ℕ) × Among (given_part x j p moment) (given_now ∷ w.down) = (s.moment, inl (λ t. given_part (sym is t) (q.1 t) (sym part t) s.moment)) in found)
          (λ (ne : ¬ ((i ≡ id) × (j ≡ k))).
          let y = e.holders.part i j x p at (sym (other_part i j ne) ∙ there) in
          let found : (moment : ℕ) × Among (given_part x j p moment) (given_now ∷ w.down) = (y.0, inr y.1) in found)
          (cases_pair i id j k);
      report = λ i reference tpdu x q at there kind. let y = e.holders.report i reference tpdu x q at there kind in (y.0, inr y.1);
      of_part = λ g i j a h. ⊎_elim
          (λ (q : g ≡ given_now).
          let holders : Part id k ≡ Part i j = ap (λ (x : Allocation). x.holder) (sym q) ∙ h in
          let same : id ≡ i = cc in
          let number : k ≡ j = cc in
          let moment : s.moment ≡ g.moment = ap (λ (x : Allocation). x.moment) (sym q) in
          let found : (x : MessageRow) × (p : PartSeen) × ((message_at i (messages_in s) ≡ Some x) × (parts_by (parts_in store_now) i j ≡ Some p) × (g ≡ given_part x j p g.moment)) =
          (row, seen_now, (ap (λ (y : ℕ). message_at y (messages_in s)) (sym same) ∙ e.entered.1, own_part i j (sym same) (sym number), q ∙ (λ t. given_part row (number t) seen_now (moment t)))) in found)
          (λ (o : Among g w.down).
          let x = e.holders.of_part g i j o h in
          let found : (y : MessageRow) × (p : PartSeen) × ((message_at i (messages_in s) ≡ Some y) × (parts_by (parts_in store_now) i j ≡ Some p) × (g ≡ given_part y j p g.moment)) =
          (x.0, x.1, (x.2.0, other_part i j (not_before i j x.1 x.2.1) ∙ x.2.1, x.2.2)) in found)
          a;
      of_report = λ g i a h. ⊎_elim
          (λ (q : g ≡ given_now). let bad : Part id k ≡ Report i = ap (λ (x : Allocation). x.holder) (sym q) ∙ h in absurd cc)
          (λ (o : Among g w.down). e.holders.of_report g i o h)
          a;
    }

    -- with the reference that it takes there is one part more
    next_now : Now (suc k) store_now (give w given_now)
    next_now = record {
      entered = part_consistent row u k b (Some r) s e.entered refl some small next;
      most = λ i x at ne. subst (λ (f : ℕ → Option PartSeen). IsInTable x f w.table) (λ t j. sym (other_part i j (λ q. ne q.0)) t) (e.most i x at ne);
      only = e.only;
      own = e.own;
      holders = holders_now;
      reports = e.reports;
      seconds = gave (seconds_by (handsets_in s) (references_in s)) (seconds_by (handsets_in store_now) (references_in store_now)) w.down s.moment given_now e.seconds
          (preserved_given s e.entered.0.held given_now refl few) refl;
      before = λ j p there. ⊎_elim
          (λ (q : j ≡ k).
          let parts : Some seen_now ≡ Some p = sym (own_part id j refl q) ∙ there in
          let part : seen_now ≡ p = cc in
          (omega (arith, q, some), (let l : j < suc k = omega (arith, q) in l), ap (λ (y : PartSeen). y.is_done) (sym part)))
          (λ (ne : j ≡ k → ⊥).
          let x = e.before j p (sym (other_part id j (λ q. ne q.1)) ∙ there) in
          (x.0, (let low = x.1 in let l : j < suc k = omega (arith, low) in l), x.2))
          (cases_eq j k);
      all = λ j first last. ⊎_elim
          (λ (q : j ≡ k). let found : (p : PartSeen) × (parts_by (parts_in store_now) id j ≡ Some p) = (seen_now, own_part id j refl q) in found)
          (λ (ne : j ≡ k → ⊥).
          let x = e.all j first (omega (arith, last, ne)) in
          let found : (p : PartSeen) × (parts_by (parts_in store_now) id j ≡ Some p) = (x.0, other_part id j (λ q. ne q.1) ∙ x.1) in found)
          (cases_eq j k);
    }

    -- and the world may give it
    may_now : CanGive w u.handset r s.moment
    may_now = can_give s w e.entered.0.held e.holders (states_now k s w e) e.reports u.handset r e.seconds next

    is_for : IsMoment s.moment → IsBody u b → b.header_indicator ≡ header → HasPart whole k (record { length = b.length; octets = b.octets }) → IsForPart whole k s.moment (compared (deliver_octets s.moment u b))
    is_for now body indicator has =
        let d : IsDeliver row part_now (deliver_of s.moment u b) = part_reads id submitted s.moment split u b part_now now fit.source body refl in
        let part : UserData = record { length = b.length; octets = b.octets } in
        let is : IsDeliverOf whole part s.moment (deliver_octets s.moment u b) = record {
          deliver = deliver_of s.moment u b;
          reads = d.read;
          time_stamp = refl;
          source = refl;
          protocol_identifier = refl;
          data_coding_scheme = body.scheme;
          reply_path = refl;
          header_indicator = indicator;
          user_data = refl;
        } in
        (part, (has, (deliver_alike whole part s.moment (deliver_octets s.moment u b)).1 is))

  -- ---- all of them

  -- all parts from a number on have their references, or there were none for them
  abbrev pub AllGiven : ℕ → List SinglePart → World → ℕ → Option Store → Type 0
  AllGiven k bs w moment None = Unit {0}
  AllGiven k bs w moment (Some e) =
      (tickets : List Ticket)
      × ((length tickets ≡ length bs) × CanGiveParts w (entered_as id u header bodies) moment k tickets
      × (e.moment ≡ moment)
      × Now (length bs + k) e (record w { down = given_parts (entered_as id u header bodies) moment k tickets w.down }))

  one_given : (i : ℕ) (b : SinglePart) (bs : List SinglePart) (s : Store) (w : World) → Now (suc i) s w → suc i < 256 → IsMoment s.moment → IsBody u b → b.header_indicator ≡ header
      → slice_get (data_of bodies) i ≡ Some (record { length = b.length; octets = b.octets })
      → ((e : Store) (v : World) → Now (suc (suc i)) e v → e.moment ≡ s.moment → AllGiven (suc (suc i)) bs v s.moment (give_parts id u (suc (suc i)) bs e))
      → (o : Option ℕ) → reference_for (handset_of u.handset (handsets_in s)) s ≡ o
      → AllGiven (suc i) (b ∷ bs) w s.moment (option_and_then (λ (e : Store). give_parts id u (suc i + 1) bs e) (part_given id u (suc i) b (handset_of u.handset (handsets_in s)) o s))
  one_given i b bs s w e small now body indicator has further None next = tt
  one_given i b bs s w e small now body indicator has further (Some r) next =
      let some : 0 < suc i = omega arith in
      let g : Allocation = given_now (suc i) b r s w e next some small in
      let f : Store = store_now (suc i) b r s w e next some small in
      let rest = further f (give w g) (next_now (suc i) b r s w e next some small) refl in
      let number : suc (suc i) ≡ suc i + 1 = omega arith in
      subst (λ (z : ℕ). AllGiven (suc i) (b ∷ bs) w s.moment (give_parts id u z bs f)) number
      (more (give_parts id u (suc (suc i)) bs f) rest (may_now (suc i) b r s w e next some small, is_for (suc i) b r s w e next some small now body indicator has))
    where
      more : (o : Option Store) → AllGiven (suc (suc i)) bs (give w (part_allocation whole s.moment (suc i) (record { reference = r; tpdu = compared (deliver_octets s.moment u b) }))) s.moment o
          → CanGive w u.handset r s.moment × IsForPart whole (suc i) s.moment (compared (deliver_octets s.moment u b)) → AllGiven (suc i) (b ∷ bs) w s.moment o
      more None rest may = tt
      more (Some z) (ts, (long, can, moment, after)) may =
          let t : Ticket = record { reference = r; tpdu = compared (deliver_octets s.moment u b) } in
          let number : length bs + suc (suc i) ≡ suc (length bs) + suc i = omega arith in (
            t ∷ ts,
            (
              ap (λ (n : ℕ). suc n) long,
              (may.0, may.1, can),
              moment,
              subst (λ (n : ℕ). Now n z (record w { down = given_parts whole s.moment (suc i) (t ∷ ts) w.down })) number after,
            ),
          )

  give_all : (i : ℕ) (bs : List SinglePart) (s : Store) (w : World) → Now (suc i) s w → i + length bs < 256 → IsMoment s.moment → ((b : SinglePart) → Among b bs → IsBody u b × (b.header_indicator ≡ header))
      → ((j : ℕ) → slice_get (data_of bodies) (i + j) ≡ slice_get (data_of bs) j) → AllGiven (suc i) bs w s.moment (give_parts id u (suc i) bs s)
  give_all i [] s w e few now each at =
      let number : suc i ≡ 0 + suc i = omega arith in ([], (refl, tt, refl, subst (λ (n : ℕ). Now n s w) number e))
  give_all i (b ∷ bs) s w e few now each at =
      let first : i ≡ i + 0 = omega arith in
      one_given i b bs s w e (let l : suc i < 256 = omega (arith, few) in l) now (each b (inl refl)).0 (each b (inl refl)).1 (ap (λ (n : ℕ). slice_get (data_of bodies) n) first ∙ at 0)
      (λ f v k m. subst (λ (t : ℕ). AllGiven (suc (suc i)) bs v t (give_parts id u (suc (suc i)) bs f)) m
      (give_all (suc i) bs f v k (omega (arith, few)) (subst (λ (t : ℕ). IsMoment t) (sym m) now) (λ x a. each x (inr a))
      (λ j. ap (λ (n : ℕ). slice_get (data_of bodies) n) (let q : suc i + j ≡ i + suc j = omega arith in q) ∙ at (suc j))))
      (reference_for (handset_of u.handset (handsets_in s)) s) refl

  -- ---- it stands there whole

  part_there : (bs : List SinglePart) (i : ℕ) → i < length bs → (x : UserData) × (slice_get (data_of bs) i ≡ Some x)
  part_there [] i few = absurd (let l : ⊥ = omega (arith, few) in l)
  part_there (b ∷ bs) zero few = (record { length = b.length; octets = b.octets }, refl)
  part_there (b ∷ bs) (suc i) few = part_there bs i (omega (arith, few))

  data_long : (bs : List SinglePart) → length (data_of bs) ≡ length bs
  data_long [] = refl
  data_long (b ∷ bs) = ap (λ (n : ℕ). suc n) (data_long bs)

  has_part : (j : ℕ) → 0 < j → j < length bodies + 1 → (part : UserData) × HasPart whole j part
  has_part zero first last = absurd (let l : ⊥ = omega (arith, first) in l)
  has_part (suc i) first last = part_there bodies i (omega (arith, last))

  within : (j : ℕ) (part : UserData) → HasPart whole j part → (0 < j) × (j < length bodies + 1)
  within zero part has = absurd cc
  within (suc i) part has =
      let l : i < length (data_of bodies) = slice_get_within (data_of bodies) i part has in
      let q = data_long bodies in
      ((let f : 0 < suc i = omega arith in f), (let g : suc i < length bodies + 1 = omega (arith, l, q) in g))

  all_there : (s : Store) (w : World) → Now (length bodies + 1) s w → StoreRefines s w
  all_there s w e = record {
    table = record {
      there = λ i x at. ⊎_elim
          (λ (same : i ≡ id).
          let both : Some row ≡ Some x = sym e.entered.1 ∙ ap (λ (j : ℕ). message_at j (messages_in s)) (sym same) ∙ at in
          let is : row ≡ x = cc in
          let own : IsInTable row (parts_by (parts_in s) id) w.table = (
            whole,
            Pending [],
            (
              e.own,
              record { id = refl; source = refl; handset = refl; protocol_identifier = refl; data_coding_scheme = refl; limit = refl; wish = refl; by_report = refl },
              ([], (refl, λ j p found. ((λ t. let bad : true ≡ false = sym t ∙ (e.before j p found).2 in absurd cc), (λ a. absurd a)))),
              record {
                there = λ j p found. let b = e.before j p found in has_part j b.0 b.1;
                only = λ j part has. let b = within j part has in e.all j b.0 b.1;
              },
            ),
          ) in
          subst (λ (y : MessageRow). IsInTable y (parts_by (parts_in s) i) w.table) is (subst (λ (j : ℕ). IsInTable row (parts_by (parts_in s) j) w.table) (sym same) own))
          (λ (ne : i ≡ id → ⊥). e.most i x at ne)
          (cases_eq i id);
      only = e.only;
    };
    reports = e.reports;
    holders = e.holders;
    seconds = e.seconds;
  }

-- ---- a message begins

-- no message of the world has the number
new_in : (t : List Message) (id : ℕ) → ((i : ℕ) (v : Submission) (st : State) → IsRecorded t i v st → i ≡ id → ⊥) → IsUnusedId t id
new_in [] id f = tt
new_in (x ∷ t) id f =
    let head : x.submission.id ≡ id → ⊥ = λ q. f x.submission.id x.submission x.state (entered_here t x.submission x.state) q in (
      head,
      new_in t id (λ i v st k q. f i v st (cond-false (x.submission.id == i) (Some x) (find i t) (ne_eqb x.submission.id i (λ z. head (z ∙ q))) ∙ k) q),
    )

module _ (id : ℕ) (split : Option ℕ) (u : SubmissionRow) (header : Bool) (bodies : List SinglePart) (fit : IsSubmission u) (s : Store) (w : World) (sound : SoundStore s) (refines : StoreRefines s w)
    (new : (x : MessageRow) → Among x (messages_in s) → x.id < id) where
  abbrev first_row : MessageRow
  first_row = message_of id s.moment split u

  abbrev entered_world : World
  entered_world = record w { table = record { submission = entered_as id u header bodies; state = Pending [] } ∷ w.table }

  message_apart : (i : ℕ) (x : MessageRow) → message_at i (messages_in s) ≡ Some x → ¬ (id ≡ i)
  message_apart i x at e =
      let low = new x (found_among message_key i x (messages_in s) at) in
      let key : x.id ≡ i = found_key message_key i x (messages_in s) at in
      let l : ⊥ = omega (arith, low, key, e) in l

  still_there : (i : ℕ) (x : MessageRow) → message_at i (messages_in s) ≡ Some x → message_at i (put message_key first_row (messages_in s)) ≡ Some x
  still_there i x at = row_at_put_other message_key i first_row (messages_in s) (message_apart i x at) ∙ at

  was_there : (i : ℕ) (x : MessageRow) → ¬ (id ≡ i) → message_at i (put message_key first_row (messages_in s)) ≡ Some x → message_at i (messages_in s) ≡ Some x
  was_there i x ne at = sym (row_at_put_other message_key i first_row (messages_in s) ne) ∙ at

  no_part_yet : (i j : ℕ) (p : PartSeen) → parts_by (parts_in s) i j ≡ Some p → ¬ (id ≡ i)
  no_part_yet i j p at e =
      let o = by_octet_some j (part_seen (part_at i j (parts_in s))) p at in
      let q = seen_part (part_at i j (parts_in s)) p o.1 in
      let among = found_among part_key (pair_key i j) q.0 (parts_in s) q.1.0 in
      let key : pair_key q.0.id q.0.number ≡ pair_key i j = found_key part_key (pair_key i j) q.0 (parts_in s) q.1.0 in
      let few = (sound.consistent.held.parts.numbers q.0 among).1 in
      let octet = o.0 in
      let same : q.0.id ≡ i = omega (arith, key, few, octet) in
      let m = sound.consistent.parts q.0 among in
      message_apart q.0.id m.0 m.1 (e ∙ sym same)

  no_report_yet : (i : ℕ) (r : ReportSeen) → reports_by (reports_in s) i ≡ Some r → ¬ (id ≡ i)
  no_report_yet i r at e =
      let q = seen_report (report_of i (reports_in s)) r at in
      let f = report_found i q.0 (reports_in s) q.1.0 in
      let m = sound.consistent.reports q.0 f.0 in
      message_apart q.0.id m.0 m.1.0 (e ∙ sym f.1)

  begins : Entering id s.moment split u (entered_as id u header bodies) 1 (enter id split u s) entered_world
  begins = record {
    entered = (enter_consistent id split u s sound.consistent new fit.handset fit.report_address, row_at_put message_key first_row (messages_in s));
    most = λ i x at ne.
        let was : message_at i (messages_in s) ≡ Some x = was_there i x (λ q. ne (sym q)) at in
        let y = refines.table.there i x was in
        let key : x.id ≡ i = found_key message_key i x (messages_in s) was in
        (y.0, y.1, (cond-false (id == x.id) (Some (let z : Message = record { submission = entered_as id u header bodies; state = Pending [] } in z)) (find x.id w.table) (ne_eqb id x.id (λ q. ne (sym (q ∙ key)))) ∙ y.2.0, y.2.1, y.2.2, y.2.3));
    only = λ i v st k. ⊎_elim
        (λ (q : (i ≡ id) × (v ≡ entered_as id u header bodies) × (st ≡ Pending [])).
        let found : (x : MessageRow) × (message_at i (put message_key first_row (messages_in s)) ≡ Some x) =
        (first_row, subst (λ (j : ℕ). message_at j (put message_key first_row (messages_in s)) ≡ Some first_row) (sym q.0) (row_at_put message_key first_row (messages_in s))) in found)
        (λ (o : IsRecorded w.table i v st).
        let x = refines.table.only i v st o in
        let found : (x : MessageRow) × (message_at i (put message_key first_row (messages_in s)) ≡ Some x) = (x.0, still_there i x.0 x.1) in found)
        (entered_back w.table (entered_as id u header bodies) v (Pending []) st i k);
    own = entered_here w.table (entered_as id u header bodies) (Pending []);
    holders = record {
      part = λ i j x p at there. refines.holders.part i j x p (was_there i x (no_part_yet i j p there) at) there;
      report = λ i reference tpdu x r at there kind. refines.holders.report i reference tpdu x r (was_there i x (no_report_yet i r there) at) there kind;
      of_part = λ g i j a h. let x = refines.holders.of_part g i j a h in (x.0, x.1, (still_there i x.0 x.2.0, x.2.1, x.2.2));
      of_report = λ g i a h. let x = refines.holders.of_report g i a h in (x.0, x.1, x.2, x.3, (still_there i x.0 x.4.0, x.4.1, x.4.2, x.4.3));
    };
    reports = refines.reports;
    seconds = refines.seconds;
    before = λ j p there. absurd (no_part_yet id j p there refl);
    all = λ j first last. absurd (let l : ⊥ = omega (arith, first, last) in l);
  }

  is_new : IsUnusedId w.table id
  is_new = new_in w.table id (λ i v st k q. let x = refines.table.only i v st k in message_apart i x.0 x.1 (sym q))

-- the world takes that submission, and the rows see it
abbrev pub SubmitsAs : Submission → World → ℕ → Option Store → Type 0
SubmitsAs v w moment None = Unit {0}
SubmitsAs v w moment (Some e) = (tickets : List Ticket) × (CanSubmit w moment v tickets × StoreRefines e (submitted w moment v tickets))

-- whichever it is
abbrev pub Submits : World → ℕ → Option Store → Type 0
Submits w moment None = Unit {0}
Submits w moment (Some e) = (v : Submission) × SubmitsAs v w moment (Some e)

pub any_submits : (v : Submission) (w : World) (moment : ℕ) (o : Option Store) → SubmitsAs v w moment o → Submits w moment o
any_submits v w moment None k = tt
any_submits v w moment (Some e) k = (v, k)

pub under_submits : (id : ℕ) (split : Option ℕ) (u : SubmissionRow) (header : Bool) (bodies : List SinglePart) → IsSubmission u → (s : Store) (w : World) → SoundStore s → StoreRefines s w
    → ((x : MessageRow) → Among x (messages_in s) → x.id < id) → 0 < length bodies → length bodies ≤ 20 → ((b : SinglePart) → Among b bodies → IsBody u b × (b.header_indicator ≡ header))
    → SubmitsAs (entered_as id u header bodies) w s.moment (accept_under id split bodies u s)
under_submits id split u header bodies fit s w sound refines new some few each =
    let e : Store = enter id split u s in
    let v : World = entered_world id split u header bodies fit s w sound refines new in
    by (give_parts id u 1 bodies e)
    (give_all id s.moment split u header bodies fit 0 bodies e v (begins id split u header bodies fit s w sound refines new) (omega (arith, few)) sound.times.now each
    (λ j. ap (λ (n : ℕ). slice_get (data_of bodies) n) (let q : 0 + j ≡ j = omega arith in q)))
    (is_new id split u header bodies fit s w sound refines new)
  where
    by : (o : Option Store) → AllGiven id s.moment split u header bodies fit 1 bodies (entered_world id split u header bodies fit s w sound refines new) s.moment o → IsUnusedId w.table id → SubmitsAs (entered_as id u header bodies) w s.moment o
    by None given new = tt
    by (Some e) (ts, (long, can, moment, after)) fresh =
        let whole_one : Submission = entered_as id u header bodies in
        let q = data_long id s.moment split u header bodies fit bodies in
        let parts : 0 < length (data_of bodies) = omega (arith, some, q) in
        let tickets : length ts ≡ length (data_of bodies) = long ∙ sym q in
        (ts, ((fresh, parts, tickets, can), all_there id s.moment split u header bodies fit e (submitted w s.moment whole_one ts) after))
