-- The parts that an event puts come in the order of their keys.
use Rattle.std.proofs.Common.{◌≡◌, ℕ, ◌+◌, ◌<◌, List, [], ◌∷◌, false, Option, Some, None, refl, sym, ◌∙◌, ap, subst, ⊎_elim, arith}
use Rattle.std.specs.Prelude.{nat_le}
use Rattle.std.specs.Option.{option_map}
use Rattle.std.proofs.lemmas.Bool.{cases_eq, cond_both}
use Rattle.sms_base.specs.Among.{Among}
use Rattle.sms_base.specs.declared.final_state.FinalState.{FinalState}
use Rattle.sms_base.specs.declared.final_state.FinalState.TheVariants.{Delivered}
use Rattle.sms_rows.specs.table.Keys.{pair_key}
use Rattle.sms_rows.specs.table.Table.{put, row_at}
use Rattle.sms_rows.proofs.table.Tables.{among_put, found_among, found_key, row_at_put, row_at_put_other}
use Rattle.sms_centre_rows.specs.declared.messages.message.MessageRow.{MessageRow}
use Rattle.sms_centre_rows.specs.declared.messages.part.PartRow.{PartRow}
use Rattle.sms_centre_rows.specs.messages.Messages.{Messages, all_done, ended, message_key, part_key, part_reaching, put_message}
use Rattle.sms_centre_rows.specs.messages.SplitReferences.{next_split}
use Rattle.sms_centre_rows.specs.declared.waiting.handset.HandsetRow.{HandsetRow}
use Rattle.sms_centre_rows.specs.declared.waiting.progress.Progress.{Progress}
use Rattle.sms_centre_rows.specs.declared.waiting.revision.Revision.{Revision}
use Rattle.sms_centre_rows.specs.declared.waiting.revision.Revision.TheVariants.{Put, Amend, Remove}
use Rattle.sms_centre_rows.specs.waiting.References.{handset_of}
use Rattle.sms_centre_rows.specs.waiting.Revisions.{Revised, amended, rows_of as rows_revised}
use Rattle.sms_centre_rows.specs.waiting.Trying.{finished}
use Rattle.sms_centre_rows.proofs.waiting.Amending.{row_at_amended, row_at_amended_other}
use Rattle.sms_intake.specs.declared.submission.SinglePart.{SinglePart}
use Rattle.sms_intake.specs.declared.submission.Submission.{Submission}
use Rattle.sms_intake.specs.PartBodies.{bodies_under, deliver_octets, is_long}
use Rattle.sms_centre_spec.specs.declared.event.CentreEvent.{CentreEvent}
use Rattle.sms_centre_spec.specs.declared.rows.Rows.{Rows}
use Rattle.sms_centre_spec.specs.CentreEvent.{happened}
use Rattle.sms_centre_spec.specs.Draft.{Core, Store, bars_in, handsets_in, messages_in, parts_in, rows_of, with_message, with_part_at}
use Rattle.sms_centre_spec.specs.MessageNumbers.{next_number}
use Rattle.sms_centre_spec.specs.Ends.{end, is_wished, report_to}
use Rattle.sms_centre_spec.specs.SoundCore.{IsEvent, IsSoundCore}
use Rattle.sms_centre_spec.specs.Submitting.{accept, accept_as, accept_split, accept_under, enter, give_part, give_parts, part_given, reference_for}
use Rattle.sms_centre_spec.specs.Transfers.{complete}
use Rattle.sms_centre_spec.proofs.Keeping.{keeps_same}
use Rattle.sms_centre_spec.proofs.KeepingSteady.{SoundSince, both_there, since_steady}
use Rattle.sms_centre_spec.proofs.NextNumbers.{below_next_number}
use Rattle.sms_centre_spec.proofs.PduFits.{event_gives}
use Rattle.sms_centre_spec.proofs.SoundStores.{store_sound}
use Rattle.sms_centre_spec.proofs.Stages.{IfThere}
use Rattle.sms_centre_spec.proofs.AcceptedConsistent.{then_there}
use Rattle.sms_centre_spec.proofs.Steady.{IsSteady}
use Rattle.sms_centre_spec.proofs.SteadyEvents.{steady_event}
use Rattle.sms_centre_messages.proofs.reference_moves.MovesSteady.{report_touches}

-- each of the parts that were put has a key below that one
abbrev pub AllBelow : ℕ → List (Revision PartRow) → Type 0
AllBelow key [] = Unit {0}
AllBelow key (Put p ∷ news) = (part_key p < key) × AllBelow key news
AllBelow key (Amend n progress ∷ news) = AllBelow key news
AllBelow key (Remove n ∷ news) = AllBelow key news

-- newest first, the keys fall
abbrev pub PutsFall : List (Revision PartRow) → Type 0
PutsFall [] = Unit {0}
PutsFall (Put p ∷ news) = AllBelow (part_key p) news × PutsFall news
PutsFall (Amend n progress ∷ news) = PutsFall news
PutsFall (Remove n ∷ news) = PutsFall news

-- what was put stands among the rows
abbrev HasRow : List PartRow → PartRow → Type 0
HasRow rows q = (x : PartRow) × (row_at part_key (part_key q) rows ≡ Some x)

abbrev AllHave : List PartRow → List (Revision PartRow) → Type 0
AllHave rows [] = Unit {0}
AllHave rows (Put q ∷ news) = HasRow rows q × AllHave rows news
AllHave rows (Amend n progress ∷ news) = AllHave rows news
AllHave rows (Remove n ∷ news) = AllHave rows news

record IsOrdered (t : Revised PartRow) : Type 0 where
  have : AllHave (rows_revised part_key part_reaching t) t.news
  fall : PutsFall t.news

-- ---- one more change

have_put : (p : PartRow) (rows : List PartRow) (news : List (Revision PartRow)) → AllHave rows news → AllHave (put part_key p rows) news
have_put p rows [] all = tt
have_put p rows (Put q ∷ news) all = (one q all.0, have_put p rows news all.1)
  where
    one : (q : PartRow) → HasRow rows q → HasRow (put part_key p rows) q
    one q x = ⊎_elim
        (λ (e : part_key p ≡ part_key q). (p, subst (λ (n : ℕ). row_at part_key n (put part_key p rows) ≡ Some p) e (row_at_put part_key p rows)))
        (λ (ne : part_key p ≡ part_key q → ⊥). (x.0, row_at_put_other part_key (part_key q) p rows ne ∙ x.1))
        (cases_eq (part_key p) (part_key q))
have_put p rows (Amend n progress ∷ news) all = have_put p rows news all
have_put p rows (Remove n ∷ news) all = have_put p rows news all

have_amended : (n : ℕ) (progress : Progress) (rows : List PartRow) (news : List (Revision PartRow)) → AllHave rows news → AllHave (amended part_key part_reaching n progress rows) news
have_amended n progress rows [] all = tt
have_amended n progress rows (Put q ∷ news) all = (one q all.0, have_amended n progress rows news all.1)
  where
    one : (q : PartRow) → HasRow rows q → HasRow (amended part_key part_reaching n progress rows) q
    one q x = ⊎_elim
        (λ (e : n ≡ part_key q). (
          part_reaching progress x.0,
          subst (λ (m : ℕ). row_at part_key m (amended part_key part_reaching n progress rows) ≡ Some (part_reaching progress x.0)) e
              (row_at_amended part_key part_reaching (λ y z. refl) n progress rows
              ∙ ap (λ (o : Option PartRow). option_map (part_reaching progress) o) (ap (λ (m : ℕ). row_at part_key m rows) e ∙ x.1)),
        ))
        (λ (ne : n ≡ part_key q → ⊥). (x.0, row_at_amended_other part_key part_reaching (λ y z. refl) (part_key q) n progress rows ne ∙ x.1))
        (cases_eq n (part_key q))
have_amended n progress rows (Amend k other ∷ news) all = have_amended n progress rows news all
have_amended n progress rows (Remove k ∷ news) all = have_amended n progress rows news all

below_all : (key : ℕ) (rows : List PartRow) (news : List (Revision PartRow)) → ((p : PartRow) → Among p rows → part_key p < key) → AllHave rows news → AllBelow key news
below_all key rows [] before all = tt
below_all key rows (Put q ∷ news) before all = (one q all.0, below_all key rows news before all.1)
  where
    one : (q : PartRow) → HasRow rows q → part_key q < key
    one q x =
        let low = before x.0 (found_among part_key (part_key q) x.0 rows x.1) in
        let own = found_key part_key (part_key q) x.0 rows x.1 in
        omega (arith, low, own)
below_all key rows (Amend n progress ∷ news) before all = below_all key rows news before all
below_all key rows (Remove n ∷ news) before all = below_all key rows news before all

abbrev Orders : Store → Type 0
Orders s = IsOrdered s.messages.parts

far_ordered : (p : PartRow) (q : Progress) (s : Store) → Orders s → Orders (with_part_at p q s)
far_ordered p q s k = record { have = have_amended (part_key p) q (parts_in s) s.messages.parts.news k.have; fall = k.fall }

-- ---- a message ends

pub end_touches : (f : FinalState) (m : MessageRow) (s : Store) → (end f m s).messages ≡ put_message (ended f s.moment m) s.messages
end_touches f m s =
    let e : Store = with_message (ended f s.moment m) s in
    cond_both (is_wished m.wish f) (report_to m.originator f m e) e (λ (x : Store). x.messages ≡ e.messages) (λ t. report_touches m.originator f m e) (λ t. refl)

ended_ordered : (f : FinalState) (m : MessageRow) (s : Store) → Orders s → Orders (end f m s)
ended_ordered f m s k = subst (λ (x : Messages). IsOrdered x.parts) (sym (end_touches f m s)) k

settled_ordered : (p : PartRow) (m : MessageRow) (s : Store) → Orders s → Orders (complete m (with_part_at p (finished p.progress) s))
settled_ordered p m s k =
    let e : Store = with_part_at p (finished p.progress) s in
    let far : Orders e = far_ordered p (finished p.progress) s k in
    cond_both (all_done m.id (parts_in e)) (end Delivered m e) e (λ (x : Store). Orders x) (λ t. ended_ordered Delivered m e far) (λ t. far)

-- ---- a submission is accepted

abbrev PartsBefore : ℕ → ℕ → Store → Type 0
PartsBefore id n s = (p : PartRow) → Among p (parts_in s) → part_key p < pair_key id n

abbrev OrdersTo : ℕ → ℕ → Store → Type 0
OrdersTo id n s = Orders s × PartsBefore id n s

module _ (id : ℕ) (u : Submission) where
  part_ordered : (n : ℕ) (b : SinglePart) (h : HandsetRow) (o : Option ℕ) (s : Store) → OrdersTo id n s → IfThere (OrdersTo id (n + 1)) (part_given id u n b h o s)
  part_ordered n b h None s k = tt
  part_ordered n b h (Some r) s k =
      let p : PartRow = record {
        id = id;
        number = n;
        reference = r;
        tpdu = deliver_octets s.moment u b;
        key = b.key;
        progress = record { is_done = false; attempts = 0; due = u.due };
      } in (
        record {
          have = ((p, row_at_put part_key p (parts_in s)), have_put p (parts_in s) s.messages.parts.news k.0.have);
          fall = (below_all (pair_key id n) (parts_in s) s.messages.parts.news k.1 k.0.have, k.0.fall);
        },
        λ x among. ⊎_elim
            (λ (e : x ≡ p). let same : part_key x ≡ pair_key id n = ap (λ (y : PartRow). part_key y) e in omega (arith, same))
            (λ (a : Among x (parts_in s) × ¬ (part_key x ≡ part_key p)). let low = k.1 x a.0 in omega (arith, low))
            (among_put part_key x p (parts_in s) among),
      )

  parts_ordered : (n : ℕ) (bs : List SinglePart) (s : Store) → OrdersTo id n s → IfThere Orders (give_parts id u n bs s)
  parts_ordered n [] s k = k.0
  parts_ordered n (b ∷ bs) s k =
      let h : HandsetRow = handset_of u.handset (handsets_in s) in
      then_there (OrdersTo id (n + 1)) Orders (λ (e : Store). give_parts id u (n + 1) bs e) (give_part id u n b h s)
      (part_ordered n b h (reference_for h s) s k) (λ e g. parts_ordered (n + 1) bs e g)

  under_ordered : (split : Option ℕ) (bs : List SinglePart) (s : Store) → OrdersTo id 1 s → IfThere Orders (accept_under id split bs u s)
  under_ordered split bs s k = parts_ordered 1 bs (enter id split u s) (record { have = k.0.have; fall = k.0.fall }, k.1)

  split_ordered : (o : Option ℕ) (s : Store) → OrdersTo id 1 s → IfThere Orders (accept_split id o u s)
  split_ordered None s k = tt
  split_ordered (Some r) s k = under_ordered (Some r) (bodies_under r u.text) s k

accept_ordered : (base : Rows) (u : Submission) (s : Store) → SoundSince base s → Orders s → IfThere Orders (accept u s)
accept_ordered base u s since k =
    let id : ℕ = next_number (rows_of s) in
    let rows = since.0.messages in
    let before : PartsBefore id 1 s = λ p among.
    let i = rows.each_part p among in
    let small = i.few in
    let low = below_next_number (rows_of s) i.message.0 rows.message_keys (found_among message_key p.id i.message.0 (messages_in s) i.message.1.0) in
    let own = found_key message_key p.id i.message.0 (messages_in s) i.message.1.0 in
    omega (arith, small, low, own) in
    let split : Option ℕ = next_split u.source u.handset (bars_in s) (messages_in s) (parts_in s) in
    cond_both (nat_le id 9999999999) (accept_as id u s) None (λ o. IfThere Orders o)
    (λ t. cond_both (is_long u.text) (accept_split id split u s) (accept_under id None (bodies_under 0 u.text) u s) (λ o. IfThere Orders o)
    (λ e. split_ordered id u split s (k, before)) (λ e. under_ordered id u None (bodies_under 0 u.text) s (k, before)))
    (λ t. tt)

-- ---- all stages

abbrev OrdersSince : Rows → Store → Type 0
OrdersSince base s = SoundSince base s × Orders s

orders_steady : (base : Rows) → IsSteady (OrdersSince base)
orders_steady base =
    let c = since_steady base in
    record {
      consistent = λ s k. c.consistent s k.0;
      accepted = λ u s k fit. both_there (SoundSince base) Orders (accept u s) (c.accepted u s k.0 fit) (accept_ordered base u s k.0 k.1);
      ended = λ f m s k there pending partly. (c.ended f m s k.0 there pending partly, ended_ordered f m s k.1);
      settled = λ p m s k there of pending undone. (c.settled p m s k.0 there of pending undone, settled_ordered p m s k.1);
      part_far = λ p q s k there same. (c.part_far p q s k.0 there same, far_ordered p q s k.1);
      report_far = λ r q s k there stays. (c.report_far r q s k.0 there stays, k.1);
      later = λ n s k past is. (c.later n s k.0 past is, k.1);
    }

pub event_puts : (event : CentreEvent) (c : Core) → IsSoundCore c → IsEvent event → PutsFall (happened event c).store.messages.parts.news
event_puts event c sound is =
    (steady_event (OrdersSince c.rows) (orders_steady c.rows) event c (
      (store_sound c.rows c.moment sound.rows sound.now sound.moment, keeps_same c.rows),
      record { have = tt; fall = tt },
    ) sound.now (event_gives event c sound is)).1.fall
