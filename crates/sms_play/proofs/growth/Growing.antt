-- Each event of a script keeps what its course tells.
use Rattle.std.proofs.Common.{◌≡◌, ℕ, zero, suc, if◌then◌else◌, List, [], ◌∷◌, ◌++◌, Bool, true, false, length, refl, sym, ◌∙◌, ap, subst, ⊎_elim, Option, Some, None, Result, Ok, Err}
use Rattle.std.specs.Str.{bytes_eq}
use Rattle.std.specs.Option.{option_map}
use Rattle.std.proofs.lemmas.Bool.{cases_Bool, cases_eq, cond-false, cond-true, cond_both}
use Rattle.std.proofs.lemmas.Slice.Eq.{bytes_eq-Decides}
use Rattle.std.proofs.lemmas.List.{append-nil, append_assoc}
use Rattle.std.proofs.lemmas.Option.{same_Some}
use Rattle.sms_base.specs.Reading.{◌>>=◌}
use Rattle.sms_base.specs.declared.holder.Holder.{Holder}
use Rattle.sms_base.specs.declared.holder.Holder.TheVariants.{Part, Report, Entry as EntryHolder, Memory}
use Rattle.sms_base.specs.declared.carried.Carried.{Carried}
use Rattle.sms_base.specs.declared.carried.Kind.{Kind}
use Rattle.sms_base.specs.declared.carried.Kind.TheVariants.{Data, Ack, Error}
use Rattle.sms_centre_spec.specs.CentreEvent.{happened}
use Rattle.sms_centre_spec.specs.Draft.{Draft, changes_in, core_of, messages_in}
use Rattle.sms_centre_spec.specs.SoundCore.{IsEvent, IsSoundCore}
use Rattle.sms_centre_spec.specs.declared.answer.CentreAnswer.{CentreAnswer}
use Rattle.sms_centre_spec.specs.declared.event.CentreEvent.{CentreEvent}
use Rattle.sms_centre_spec.specs.declared.event.CentreEvent.TheVariants.{DeliverAnswered}
use Rattle.sms_centre_spec.specs.declared.rows.Rows.{Rows}
use Rattle.sms_centre_spec.proofs.EventLaws.{keeps_rows, stays_sound}
use Rattle.sms_centre_spec.proofs.Resting.{happened_rests}
use Rattle.sms_centre_messages.proofs.reference_moves.EventMoves.{event_moves}
use Rattle.sms_centre_messages.specs.references.Moves.{ArePartMoves, IsPartMove}
use Rattle.sms_handset.specs.declared.event.HandsetEvent.{HandsetEvent}
use Rattle.sms_handset.specs.declared.refusal.Refusal.{Refusal}
use Rattle.sms_handset_draft.specs.Draft.{Draft as HandsetDraft}
use Rattle.sms_link.specs.declared.outgoing.Outgoing.{Outgoing}
use Rattle.sms_centre_rows.specs.declared.messages.message.MessageRow.{MessageRow}
use Rattle.sms_centre_rows.specs.declared.messages.part.PartRow.{PartRow}
use Rattle.sms_centre_rows.specs.messages.Messages.{message_key, part_key, part_reaching}
use Rattle.sms_handset_rows.specs.declared.outbox.out_entry.OutEntry.{OutEntry}
use Rattle.sms_handset_rows.specs.outbox.Keys.{out_key}
use Rattle.sms_centre_rows.specs.declared.reports.delivery.Delivery.{Delivery}
use Rattle.sms_centre_rows.specs.declared.reports.report.ReportKind.{ReportKind}
use Rattle.sms_centre_rows.specs.declared.reports.report.ReportKind.TheVariants.{Receipt, Status, Unsent}
use Rattle.sms_centre_rows.specs.declared.reports.report.ReportRow.{ReportRow}
use Rattle.sms_script.specs.declared.report.rows.AcceptedRow.{AcceptedRow}
use Rattle.sms_script.specs.declared.report.rows.FrameRow.{FrameRow}
use Rattle.sms_script.specs.declared.report.rows.Direction.{Direction}
use Rattle.sms_script.specs.declared.report.rows.Direction.TheVariants.{Up, Down}
use Rattle.sms_script.specs.declared.report.rows.GivenRow.{GivenRow}
use Rattle.sms_script.specs.declared.report.answers.Answered.TheVariants.{Stopped as AnsweredStopped}
use Rattle.sms_script.specs.declared.event.Act.{Act}
use Rattle.sms_script.specs.declared.event.Act.TheVariants.{Submit, Query, Cancel, Write, Delete, Discard, Deliver, Tick}
use Rattle.sms_script.specs.declared.event.EventSide.{EventSide}
use Rattle.sms_script.specs.declared.event.EventSide.TheVariants.{Centre, Handset}
use Rattle.sms_script.specs.declared.event.StopPoint.{StopPoint}
use Rattle.sms_script.specs.declared.event.StopPoint.TheVariants.{Before, After}
use Rattle.sms_script.specs.declared.event.WorldEvent.TheVariants.{Whole, Stopped, Restart}
use Rattle.sms_rows.specs.declared.table.change.Change.{Change}
use Rattle.sms_rows.specs.declared.table.change.Change.TheVariants.{Put as PutRow, Remove as RemoveRow}
use Rattle.sms_rows.specs.table.Table.{all_applied, put, row_at, without}
use Rattle.sms_rows.proofs.table.Tables.{row_at_put, row_at_put_other}
use Rattle.sms_centre_rows.specs.declared.waiting.revision.Revision.{Revision}
use Rattle.sms_centre_rows.specs.declared.waiting.revision.Revision.TheVariants.{Put, Amend, Remove}
use Rattle.sms_centre_rows.specs.waiting.Revisions.{all_revised, amended, revised}
use Rattle.sms_centre_rows.proofs.waiting.Amending.{row_at_amended, row_at_amended_other}
use Rattle.sms_play.specs.CentreSide.{accepted_after, centre_meets, committed, done, given_by, parts_given, report_given, reports_given, with_answer, whole}
use Rattle.sms_play.specs.PlayState.{PlayState, Party, answer, frame_at, party_at, with_party}
use Rattle.sms_play.specs.HandsetSide.{accepted_in, carried_given, committed as handset_committed, data_given, entries_given, entry_given, given_by as handset_given, handset_meets, happened as handset_happened, is_owners, memories_given, memory_given, party_after, with_answer as handset_told, whole as handset_whole}
use Rattle.sms_play.specs.Meeting.{Meeting, AtCentre, AtHandset, by_account, by_handset, delivered, handed_over, is_answered, meeting_of, ticked, account_from}
use Rattle.sms_play.specs.PlayedEvent.{centre_restarted, handset_stored, handset_restarted, handset_restarts, stored, met, party_restarted, restart, restarted, stopped}
use Rattle.sms_script.specs.declared.play_fault.PlayFault.{PlayFault}
use Rattle.sms_play.specs.growth.Growth.{AcceptMore, Grows, GrowthLaw, HasPart, HaveParts, PartsStay, IsCentreEvent}
use Rattle.sms_play.proofs.answers.PlayAnswers.{ok_play, same_play}
use Rattle.sms_play.proofs.judging.Looking.{have_both}

abbrev pub ok_meeting : Meeting → Result Meeting PlayFault
ok_meeting m = Ok m

-- ---- parts that are there

module _ (before after : List PartRow) (stay : PartsStay before after) where
  one_there : (h : Holder) → HasPart before h → HasPart after h
  one_there (Part id n) there = let x = stay id n there.0 there.1 in (x.0, x.1.0)
  one_there (Report id) there = tt
  one_there (EntryHolder n) there = tt
  one_there (Memory n) there = tt

  still_have : (given : List GivenRow) → HaveParts before given → HaveParts after given
  still_have [] have = tt
  still_have (g ∷ given) have = (one_there g.holder have.0, still_have given have.1)

same_parts : (ps : List PartRow) → PartsStay ps ps
same_parts ps id n p e = (p, (e, refl))

-- ---- handsets

same_parties : (ps : List Party) → AcceptMore ps ps
same_parties [] = tt
same_parties (p ∷ ps) = (([], sym (append-nil p.accepted)), same_parties ps)

more_parties : (ps qs rs : List Party) → AcceptMore ps qs → AcceptMore qs rs → AcceptMore ps rs
more_parties [] [] [] a b = tt
more_parties [] [] (r ∷ rs) a b = absurd b
more_parties [] (q ∷ qs) rs a b = absurd a
more_parties (p ∷ ps) [] rs a b = absurd a
more_parties (p ∷ ps) (q ∷ qs) [] a b = absurd b
more_parties (p ∷ ps) (q ∷ qs) (r ∷ rs) a b = (
  (a.0.0 ++ b.0.0, b.0.1 ∙ ap (λ (z : List AcceptedRow). z ++ b.0.0) a.0.1 ∙ append_assoc p.accepted a.0.0 b.0.0),
  more_parties ps qs rs a.1 b.1,
)

party_number : (n : List ℕ) (ps : List Party) (p : Party) → party_at n ps ≡ Some p → p.number ≡ n
party_number n [] p e = absurd cc
party_number n (x ∷ xs) p e = ⊎_elim
    (λ (y : bytes_eq x.number n ≡ true).
    let q : x ≡ p = same_Some x p (sym (cond-true (bytes_eq x.number n) (Some x) (party_at n xs) y) ∙ e) in
    ap (λ (z : Party). z.number) (sym q) ∙ (bytes_eq-Decides x.number n).0 y)
    (λ (y : bytes_eq x.number n ≡ false).
    party_number n xs p (sym (cond-false (bytes_eq x.number n) (Some x) (party_at n xs) y) ∙ e))
    (cases_Bool (bytes_eq x.number n))

-- one of them accepted more
with_more : (z p : Party) (more : List AcceptedRow) (ps : List Party) → party_at z.number ps ≡ Some p → z.accepted ≡ p.accepted ++ more → AcceptMore ps (with_party z ps)
with_more z p more [] e is = absurd cc
with_more z p more (x ∷ ps) e is =
    cond_both (bytes_eq x.number z.number) (z ∷ ps) (x ∷ with_party z ps) (λ (qs : List Party). AcceptMore (x ∷ ps) qs)
    (λ t.
    let q : x ≡ p = same_Some x p (sym (cond-true (bytes_eq x.number z.number) (Some x) (party_at z.number ps) t) ∙ e) in
    ((more, is ∙ ap (λ (y : Party). y.accepted ++ more) (sym q)), same_parties ps))
    (λ f. (
      ([], sym (append-nil x.accepted)),
      with_more z p more ps (sym (cond-false (bytes_eq x.number z.number) (Some x) (party_at z.number ps) f) ∙ e) is,
    ))

-- ---- courses

stays_so : (c : PlayState) → Grows c c
stays_so c = record { more = []; given = sym (append-nil c.given); parts = same_parts c.centre.rows.parts; there = tt; parties = same_parties c.parties }

grows_then : (a b c : PlayState) → Grows a b → Grows b c → Grows a c
grows_then a b c x y = record {
  more = x.more ++ y.more;
  given = y.given ∙ ap (λ (z : List GivenRow). z ++ y.more) x.given ∙ append_assoc a.given x.more y.more;
  parts = λ id n p e.
      let q = x.parts id n p e in
      let r = y.parts id n q.0 q.1.0 in
      (r.0, (r.1.0, r.1.1 ∙ q.1.1));
  there = have_both c.centre.rows.parts x.more y.more (still_have b.centre.rows.parts c.centre.rows.parts y.parts x.more x.there) y.there;
  parties = more_parties a.parties b.parties c.parties x.parties y.parties;
}

-- ---- an event of the centre

abbrev IsThere : ℕ → List PartRow → Type 0
IsThere k rows = (q : PartRow) × (row_at part_key k rows ≡ Some q)

module _ (cs : List (Change MessageRow)) (ms : List MessageRow) where
  one_stays : (k : ℕ) (x : Revision PartRow) (ps : List PartRow) → IsPartMove cs x ms ps → IsThere k ps → IsThere k (revised part_key part_reaching x ps)
  one_stays k (Put x) ps move there = ⊎_elim
      (λ (e : part_key x ≡ k). (x, ap (λ (n : ℕ). row_at part_key n (revised part_key part_reaching (Put x) ps)) (sym e) ∙ row_at_put part_key x ps))
      (λ (ne : part_key x ≡ k → ⊥). (there.0, row_at_put_other part_key k x ps ne ∙ there.1))
      (cases_eq (part_key x) k)
  one_stays k (Amend n progress) ps move there = ⊎_elim
      (λ (e : n ≡ k). (
        part_reaching progress there.0,
        subst (λ (m : ℕ). row_at part_key m (amended part_key part_reaching n progress ps) ≡ Some (part_reaching progress there.0)) e
            (row_at_amended part_key part_reaching (λ q y. refl) n progress ps
            ∙ ap (λ (o : Option PartRow). option_map (part_reaching progress) o) (ap (λ (m : ℕ). row_at part_key m ps) e ∙ there.1)),
      ))
      (λ (ne : n ≡ k → ⊥). (there.0, row_at_amended_other part_key part_reaching (λ q y. refl) k n progress ps ne ∙ there.1))
      (cases_eq n k)
  one_stays k (Remove n) ps move there = absurd move

  all_stay : (k : ℕ) (xs : List (Revision PartRow)) (ps : List PartRow) → ArePartMoves cs xs ms ps → IsThere k ps → IsThere k (all_revised part_key part_reaching xs ps)
  all_stay k [] ps moves there = there
  all_stay k (x ∷ xs) ps moves there = all_stay k xs (revised part_key part_reaching x ps) moves.1 (one_stays k x ps moves.0 there)

  -- a part that is put is there in the end
  puts_there : (moment : ℕ) (messages : List MessageRow) (xs : List (Revision PartRow)) (ps : List PartRow) → ArePartMoves cs xs ms ps
      → HaveParts (all_revised part_key part_reaching xs ps) (parts_given moment messages xs)
  puts_there moment messages [] ps moves = tt
  puts_there moment messages (Put p ∷ xs) ps moves = (
    all_stay (part_key p) xs (revised part_key part_reaching (Put p) ps) moves.1 (p, row_at_put part_key p ps),
    puts_there moment messages xs (revised part_key part_reaching (Put p) ps) moves.1,
  )
  puts_there moment messages (Amend n progress ∷ xs) ps moves = puts_there moment messages xs (revised part_key part_reaching (Amend n progress) ps) moves.1
  puts_there moment messages (Remove n ∷ xs) ps moves = absurd moves.0

report_there : (parts : List PartRow) (moment id : ℕ) (handset : List ℕ) (k : ReportKind) → HaveParts parts (report_given moment id handset k)
report_there parts moment id handset Receipt = tt
report_there parts moment id handset (Status reference tpdu) = (tt, tt)
report_there parts moment id handset Unsent = tt

reports_there : (parts : List PartRow) (moment : ℕ) (ms : List MessageRow) (xs : List (Revision ReportRow)) → HaveParts parts (reports_given moment ms xs)
reports_there parts moment ms [] = tt
reports_there parts moment ms (Put r ∷ xs) =
    have_both parts (report_given moment r.id _ r.kind) (reports_given moment ms xs) (report_there parts moment r.id _ r.kind) (reports_there parts moment ms xs)
reports_there parts moment ms (Amend n progress ∷ xs) = reports_there parts moment ms xs
reports_there parts moment ms (Remove n ∷ xs) = reports_there parts moment ms xs

module _ (event : CentreEvent) (c : PlayState) (sound : IsSoundCore c.centre) (is : IsEvent event) where
  abbrev d : Draft
  d = happened event c.centre

  abbrev after : List PartRow
  after = (core_of d).rows.parts

  parts_after : all_revised part_key part_reaching (changes_in d.store).parts c.centre.rows.parts ≡ after
  parts_after = ap (λ (r : Rows). r.parts) (happened_rests event c.centre)

  given_there : HaveParts after (given_by d)
  given_there =
      have_both after (parts_given d.store.moment (messages_in d.store) (changes_in d.store).parts) (reports_given d.store.moment (messages_in d.store) (changes_in d.store).reports)
      (subst (λ (ps : List PartRow). HaveParts ps (parts_given d.store.moment (messages_in d.store) (changes_in d.store).parts)) parts_after
      (puts_there (changes_in d.store).messages (all_applied message_key (changes_in d.store).messages c.centre.rows.messages) d.store.moment (messages_in d.store) (changes_in d.store).parts
      c.centre.rows.parts (event_moves event c.centre sound is).parts))
      (reports_there after d.store.moment (messages_in d.store) (changes_in d.store).reports)

  parts_stay : PartsStay c.centre.rows.parts after
  parts_stay id n p e = let x = (keeps_rows event c.centre sound is).parts id n p e in (x.0, (x.1.0, x.1.1.tpdu))

  event_grows_it : Grows c (committed d c)
  event_grows_it = record { more = given_by d; given = refl; parts = parts_stay; there = given_there; parties = same_parties c.parties }

-- the frames that go out change none of it
sent_grows : (a c : PlayState) (bag : List FrameRow) → Grows a c → Grows a (record c { bag = bag })
sent_grows a c bag g = record { more = g.more; given = g.given; parts = g.parts; there = g.there; parties = g.parties }

done_grows : (event : CentreEvent) (c : PlayState) → IsSoundCore c.centre → IsEvent event → Grows c (done (happened event c.centre) c)
done_grows event c sound is = let g = event_grows_it event c sound is in record { more = g.more; given = g.given; parts = g.parts; there = g.there; parties = g.parties }

-- ---- receipts that go out, one after another

receipts_go : (d : Draft) (most : ℕ) (waiting : List Delivery) (c : PlayState) → IsSoundCore c.centre → Grows c (accepted_after d most waiting c)
receipts_go d zero waiting c sound = stays_so c
receipts_go d (suc most) [] c sound = stays_so c
receipts_go d (suc most) (x ∷ waiting) c sound =
    let event : CentreEvent = DeliverAnswered x.session x.id true in
    let e : Draft = happened event c.centre in
    grows_then c (done e c) (accepted_after e most (waiting ++ e.bindings.deliveries) (done e c)) (done_grows event c sound tt)
    (receipts_go e most (waiting ++ e.bindings.deliveries) (done e c) (stays_sound event c.centre sound tt))

told_grows : (event : ℕ) (o : Option CentreAnswer) (a c : PlayState) → Grows a c → Grows a (with_answer event o c)
told_grows event None a c g = g
told_grows event (Some x) a c g = record { more = g.more; given = g.given; parts = g.parts; there = g.there; parties = g.parties }

centre_goes : (number : ℕ) (event : CentreEvent) (c : PlayState) → IsSoundCore c.centre → IsEvent event → Grows c (centre_meets number event c)
centre_goes number event c sound is =
    let d : Draft = happened event c.centre in
    told_grows number d.answer c (whole d c)
    (grows_then c (done d c) (whole d c) (done_grows event c sound is) (receipts_go d (length (core_of d).rows.reports) d.bindings.deliveries (done d c) (stays_sound event c.centre sound is)))

centre_again : (c : PlayState) → Grows c (centre_restarted c)
centre_again c = record { more = []; given = sym (append-nil c.given); parts = same_parts c.centre.rows.parts; there = tt; parties = same_parties c.parties }

-- ---- an event of a handset: it gives no part a reference

entry_there : (parts : List PartRow) (handset : List ℕ) (moment : ℕ) (b : Bool) (o : OutEntry) → HaveParts parts (if b then [] else entry_given handset moment o)
entry_there parts handset moment true o = tt
entry_there parts handset moment false o = (tt, tt)

module _ (parts : List PartRow) (handset : List ℕ) (moment : ℕ) where
  entries_there : (outbox : List OutEntry) (cs : List (Change OutEntry)) → HaveParts parts (entries_given handset moment outbox cs)
  entries_there outbox [] = tt
  entries_there outbox (PutRow o ∷ cs) =
      have_both parts _ (entries_given handset moment (put out_key o outbox) cs) (entry_there parts handset moment _ o) (entries_there (put out_key o outbox) cs)
  entries_there outbox (RemoveRow n ∷ cs) = entries_there (without out_key n outbox) cs

  one_memory : (b : Bool) (reference n : ℕ) → HaveParts parts (if b then record { handset = handset; direction = Up; reference = reference; holder = Memory n; moment = moment } ∷ [] else [])
  one_memory true reference n = (tt, tt)
  one_memory false reference n = tt

  memory_there : (next reference : ℕ) (h : Holder) → HaveParts parts (memory_given handset moment next reference h)
  memory_there next reference (Part id n) = tt
  memory_there next reference (Report id) = tt
  memory_there next reference (EntryHolder n) = tt
  memory_there next reference (Memory n) = one_memory _ reference n

  data_there : (next reference : ℕ) (tag : Holder) (k : Kind) → HaveParts parts (data_given handset moment next reference tag k)
  data_there next reference tag Data = memory_there next reference tag
  data_there next reference tag Ack = tt
  data_there next reference tag Error = tt

  carried_there : (next : ℕ) (o : Option Carried) → HaveParts parts (carried_given handset moment next o)
  carried_there next None = tt
  carried_there next (Some carried) = data_there next carried.reference carried.tag carried.kind

  frame_there : (next : ℕ) (b : Bool) (o : Option Carried) → HaveParts parts (if b then [] else carried_given handset moment next o)
  frame_there next true o = tt
  frame_there next false o = carried_there next o

  memories_there : (next : ℕ) (fs : List Outgoing) → HaveParts parts (memories_given handset moment next fs)
  memories_there next [] = tt
  memories_there next (f ∷ fs) =
      have_both parts (if f.is_copy then [] else carried_given handset moment next f.carried) (memories_given handset moment next fs) (frame_there next f.is_copy f.carried) (memories_there next fs)

module _ (party : Party) (c : PlayState) (at : party_at party.number c.parties ≡ Some party) where
  commit_grows : (d : HandsetDraft) → Grows c (handset_committed party d c)
  commit_grows d = record {
    more = handset_given party d;
    given = refl;
    parts = same_parts c.centre.rows.parts;
    there = have_both c.centre.rows.parts _ _ (entries_there c.centre.rows.parts party.number d.moment party.core.rows.outbox d.changes.outbox)
        (memories_there c.centre.rows.parts party.number d.moment party.core.rows.counters.notice d.frames);
    parties = with_more (party_after party d) party (accepted_in party.number d.changes.last) c.parties at refl;
  }

  whole_goes : (r : Result HandsetDraft Refusal) → Grows c (handset_whole party r c)
  whole_goes (Ok d) = let g = commit_grows d in record { more = g.more; given = g.given; parts = g.parts; there = g.there; parties = g.parties }
  whole_goes (Err refusal) = stays_so c

  answer_goes : (number : ℕ) (r : Result HandsetDraft Refusal) (b : PlayState) → Grows c b → Grows c (handset_told number r b)
  answer_goes number (Ok d) b g = record { more = g.more; given = g.given; parts = g.parts; there = g.there; parties = g.parties }
  answer_goes number (Err refusal) b g = record { more = g.more; given = g.given; parts = g.parts; there = g.there; parties = g.parties }

  handset_goes : (number : ℕ) (e : HandsetEvent) → Grows c (handset_meets number party e c)
  handset_goes number e =
      let d : Result HandsetDraft Refusal = handset_happened e party.core in
      let g : Grows c (handset_whole party d c) = whole_goes d in
      cond_both (is_owners e) (handset_told number d (handset_whole party d c)) (handset_whole party d c) (λ (z : PlayState). Grows c z) (λ t. answer_goes number d (handset_whole party d c) g) (λ f. g)

  preserved_grows : (r : Result HandsetDraft Refusal) → Grows c (handset_stored party r c)
  preserved_grows (Ok d) = commit_grows d
  preserved_grows (Err refusal) = stays_so c

-- a handset that starts again
again : (p : Party) (c : PlayState) → party_at p.number c.parties ≡ Some p → Grows c (party_restarted p c)
again p c at = record {
  more = [];
  given = sym (append-nil c.given);
  parts = same_parts c.centre.rows.parts;
  there = tt;
  parties = with_more _ p [] c.parties at (sym (append-nil p.accepted));
}

own_number : (n : List ℕ) (ps : List Party) (p : Party) → party_at n ps ≡ Some p → party_at p.number ps ≡ Some p
own_number n ps p e = ap (λ (z : List ℕ). party_at z ps) (party_number n ps p e) ∙ e

handset_again : (n : List ℕ) (c : PlayState) (o : Option Party) → party_at n c.parties ≡ o → Grows c (handset_restarted o c)
handset_again n c None e = stays_so c
handset_again n c (Some p) e = again p c (own_number n c.parties p e)

-- ---- every act

-- a handset that is met stands in the course
abbrev Fits : Meeting → PlayState → Type 0
Fits (AtCentre e) c = IsEvent e
Fits (AtHandset p e) c = party_at p.number c.parties ≡ Some p

met_goes : (number : ℕ) (m : Meeting) (c : PlayState) → IsSoundCore c.centre → Fits m c → Grows c (met number m c)
met_goes number (AtCentre e) c sound fits = centre_goes number e c sound fits
met_goes number (AtHandset p e) c sound fits = handset_goes p c fits number e

preserved_on : (s : StopPoint) (m : Meeting) (c : PlayState) → IsSoundCore c.centre → Fits m c → Grows c (stored s m c)
preserved_on Before m c sound fits = stays_so c
preserved_on After (AtCentre e) c sound fits = event_grows_it e c sound fits
preserved_on After (AtHandset p e) c sound fits = preserved_grows p c fits (handset_happened e p.core)

restarted_on : (m : Meeting) (c : PlayState) → Grows c (restarted m c)
restarted_on (AtCentre e) c = centre_again c
restarted_on (AtHandset p e) c = handset_again p.number c (party_at p.number c.parties) refl

stopped_event_grows : (number : ℕ) (act : Act) (s : StopPoint) (m : Meeting) (c : PlayState) → IsSoundCore c.centre → Fits m c → Grows c (stopped number act s m c)
stopped_event_grows number act s m c sound fits =
    let k : PlayState = stored s m c in
    let g : Grows c (restarted m k) = grows_then c k (restarted m k) (preserved_on s m c sound fits) (restarted_on m k) in
    cond_both (is_answered act) (answer number AnsweredStopped (restarted m k)) (restarted m k) (λ (z : PlayState). Grows c z)
    (λ t. record { more = g.more; given = g.given; parts = g.parts; there = g.there; parties = g.parties })
    (λ f. g)

-- ---- whom an act concerns

pub some_meeting : (a b : Meeting) → ok_meeting a ≡ ok_meeting b → a ≡ b
some_meeting a b e = cc

module _ (c : PlayState) where
  abbrev AllFit : Result Meeting PlayFault → Type 0
  AllFit r = (m : Meeting) → r ≡ ok_meeting m → IsCentreEvent r → Fits m c

  fits_if : (r : Result Meeting PlayFault) (m n : Meeting) → n ≡ m → Fits n c → Fits m c
  fits_if r m n e f = subst (λ (z : Meeting). Fits z c) e f

  account_fits : (number : ℕ) (request : ℕ → CentreEvent) (o : Option ℕ) → AllFit (by_account number request o)
  account_fits number request None m e t = absurd cc
  account_fits number request (Some place) m e t = subst (λ (z : Meeting). Fits z c) (some_meeting (AtCentre (request place)) m e) t

  handset_fits : (number : ℕ) (e : HandsetEvent) (n : List ℕ) (o : Option Party) → party_at n c.parties ≡ o → AllFit (by_handset e number o)
  handset_fits number e n None at m is t = absurd cc
  handset_fits number e n (Some p) at m is t = subst (λ (z : Meeting). Fits z c) (some_meeting (AtHandset p e) m is) (own_number n c.parties p at)

  frame_fits : (number : ℕ) (direction : Direction) (f : FrameRow) → AllFit (handed_over number direction f c)
  frame_fits number Up f m e t = subst (λ (z : Meeting). Fits z c) (some_meeting (AtCentre _) m e) t
  frame_fits number Down f m e t = handset_fits number _ f.handset (party_at f.handset c.parties) refl m e t

  delivered_fits : (number : ℕ) (o : Option FrameRow) → AllFit (delivered number o c)
  delivered_fits number None m e t = absurd cc
  delivered_fits number (Some f) m e t = frame_fits number f.direction f m e t

  tick_fits : (number now : ℕ) (s : EventSide) → AllFit (ticked number now s c)
  tick_fits number now Centre m e t = subst (λ (z : Meeting). Fits z c) (some_meeting (AtCentre _) m e) t
  tick_fits number now (Handset n) m e t = handset_fits number _ n (party_at n c.parties) refl m e t

  act_fits : (number : ℕ) (act : Act) → AllFit (meeting_of number act c)
  act_fits number (Submit s) m e t = account_fits number _ (account_from 0 s.name c.centre.rows.setup.accounts) m e t
  act_fits number (Query name id) m e t = account_fits number _ (account_from 0 name c.centre.rows.setup.accounts) m e t
  act_fits number (Cancel name id) m e t = account_fits number _ (account_from 0 name c.centre.rows.setup.accounts) m e t
  act_fits number (Write handset to report text) m e t = handset_fits number _ handset (party_at handset c.parties) refl m e t
  act_fits number (Delete handset entry) m e t = handset_fits number _ handset (party_at handset c.parties) refl m e t
  act_fits number (Discard handset entry) m e t = handset_fits number _ handset (party_at handset c.parties) refl m e t
  act_fits number (Deliver n) m e t = delivered_fits number (frame_at n c.bag) m e t
  act_fits number (Tick side now) m e t = tick_fits number now side m e t

-- ---- every event

after_meeting : (r : Result Meeting PlayFault) (f : Meeting → PlayState) (d : PlayState) → (r >>= λ (m : Meeting). ok_play (f m)) ≡ ok_play d → (m : Meeting) × ((r ≡ ok_meeting m) × (f m ≡ d))
after_meeting (Ok m) f d e = let q : f m ≡ d = cc in (m, (refl, q))
after_meeting (Err fault) f d e = absurd cc

party_grows : (number : ℕ) (n : List ℕ) (c d : PlayState) (o : Option Party) → party_at n c.parties ≡ o → handset_restarts number o c ≡ ok_play d → Grows c d
party_grows number n c d None at e = absurd cc
party_grows number n c d (Some p) at e = subst (λ (z : PlayState). Grows c z) (same_play (party_restarted p c) d e) (again p c (own_number n c.parties p at))

side_grows : (number : ℕ) (s : EventSide) (c d : PlayState) → restart number s c ≡ ok_play d → Grows c d
side_grows number Centre c d e = subst (λ (z : PlayState). Grows c z) (same_play (centre_restarted c) d e) (centre_again c)
side_grows number (Handset n) c d e = party_grows number n c d (party_at n c.parties) refl e

pub every_event_grows_on : GrowthLaw
every_event_grows_on number (Whole act) c d sound fit e =
    let x = after_meeting (meeting_of number act c) (λ (m : Meeting). met number m c) d e in
    subst (λ (z : PlayState). Grows c z) x.1.1 (met_goes number x.0 c sound (act_fits c number act x.0 x.1.0 fit))
every_event_grows_on number (Stopped stop act) c d sound fit e =
    let x = after_meeting (meeting_of number act c) (λ (m : Meeting). stopped number act stop m c) d e in
    subst (λ (z : PlayState). Grows c z) x.1.1 (stopped_event_grows number act stop x.0 c sound (act_fits c number act x.0 x.1.0 fit))
every_event_grows_on number (Restart side) c d sound fit e = side_grows number side c d e
