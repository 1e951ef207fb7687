-- What queries find and cancellations delete, as the lines of reports say it.
use Rattle.sms_base.specs.Among.{Among}
use Rattle.sms_base.specs.declared.final_state.FinalState.TheVariants.{Deleted}
use Rattle.sms_centre_rows.specs.declared.messages.message.MessageRow.{MessageRow}
use Rattle.sms_centre_rows.specs.messages.Messages.{ended, message_at, message_key}
use Rattle.sms_centre_rows.specs.reports.Receipts.{is_account}
use Rattle.sms_centre_spec.proofs.SteadyTimes.{above_among}
use Rattle.sms_play.specs.CentreSide.{state_of}
use Rattle.sms_play.specs.PlayState.{PlayState}
use Rattle.sms_play.specs.Playing.{message_lines}
use Rattle.sms_rows.proofs.table.Places.{without_gap}
use Rattle.sms_rows.proofs.table.Tables.{found_among, found_key, insert_behind, insert_here, without_behind, without_here}
use Rattle.sms_rows.specs.table.Table.{AllAbove, Rises, insert, put, without}
use Rattle.smpp_pdu.specs.declared.status.CommandStatus.TheVariants.{ESME_ROK}
use Rattle.sms_script.specs.declared.event.Act.TheVariants.{Cancel, Query}
use Rattle.sms_script.specs.declared.event.WorldEvent.{WorldEvent}
use Rattle.sms_script.specs.declared.event.WorldEvent.TheVariants.{Whole}
use Rattle.sms_script.specs.declared.report.Report.{Report}
use Rattle.sms_script.specs.declared.report.answers.Answer.{Answer}
use Rattle.sms_script.specs.declared.report.answers.Answered.{Answered}
use Rattle.sms_script.specs.declared.report.answers.Answered.TheVariants.{Found, Status}
use Rattle.sms_centre_rows.specs.declared.report_lines.MessageState.{MessageState}
use Rattle.sms_centre_rows.specs.declared.report_lines.MessageState.TheVariants.{Final as FinalLine}
use Rattle.sms_centre_rows.specs.declared.report_lines.ReportedMessage.{ReportedMessage}
use Rattle.sms_script.specs.declared.script.Script.{Script}
use Rattle.sms_world.proofs.headline.PlainDeleted.{same_id}
use Rattle.sms_world.proofs.headline.PlainNamed.{IsAnswerAt, answer_at}
use Rattle.sms_world.proofs.headline.PlainOwners.{account_named, own_is}
use Rattle.sms_world.proofs.headline.PlainSteps.{IsStep, at_place}
use Rattle.sms_world.proofs.headline.Tables.{line_of, line_there}
use Rattle.sms_world.proofs.headline.TrueRequests.{cancel_true, query_true}
use Rattle.sms_world.specs.headline.PlainLaws.{AreReports, CancelsLaw, QueriesLaw}
use Rattle.sms_world.specs.headline.PlainReport.{IsCancelled, IsChanged, IsFoundTruly, IsOwn}
use Rattle.sms_world.specs.headline.PlainWords.{id_in, numbered}
use Rattle.sms_world.specs.headline.RequestClaims.{IsAnswered, IsNamedBy}
use Rattle.sms_world.specs.headline.RequestClaims.{IsCancelled as CancelsSo, IsQueried}
use Rattle.sms_world.specs.headline.TypedEvents.{AreTyped}
use Rattle.std.proofs.Common.{List, Some, [], ap, arith, false, inl, inr, length, refl, subst, suc, sym, true, ⊎_elim, ℕ, ◌+◌, ◌++◌, ◌<◌, ◌≤◌, ◌∙◌, ◌∷◌, ◌≡◌}
use Rattle.std.proofs.lemmas.Bool.{cases_Bool, cond-false, cond-true, eqb-false}
use Rattle.std.proofs.lemmas.Option.{same_Some, slice_get_within}
use Rattle.std.specs.Prelude.{slice_get, ◌==◌}

-- ---- a row that takes the place of that of its key

-- lines of other messages
same_lines : (id : ℕ) (state : MessageState) (ms : List MessageRow) → ((x : MessageRow) → Among x ms → ¬ (x.id ≡ id)) → IsChanged id state (message_lines ms) (message_lines ms)
same_lines id state [] others = tt
same_lines id state (m ∷ ms) others = (inr (others m (inl refl), refl), same_lines id state ms (λ x i. others x (inr i)))

inserted_first : (w : MessageRow) (ms : List MessageRow) → AllAbove message_key (message_key w) ms → insert message_key w ms ≡ w ∷ ms
inserted_first w [] above = refl
inserted_first w (m ∷ ms) above = insert_here message_key w m ms above.0

not_below : (a b : ℕ) → a < b → a ≡ b → ⊥
not_below a b l e = omega (arith, l, e)

no_more_than : (a b : ℕ) → a < b → a ≤ b
no_more_than a b l = omega (arith, l)

module _ (moment : ℕ) (m : MessageRow) where
  abbrev w : MessageRow
  w = ended Deleted moment m

  abbrev Changed : List MessageRow → Type 0
  Changed ms = IsChanged m.id (FinalLine Deleted) (message_lines ms) (message_lines (put message_key w ms))

  changed_first : (r : MessageRow) (rs : List MessageRow) → AllAbove message_key r.id rs → r ≡ m → Changed (r ∷ rs)
  changed_first r rs above same =
      let over : AllAbove message_key m.id rs = subst (λ (x : MessageRow). AllAbove message_key x.id rs) same above in
      let own : r.id ≡ m.id = ap (λ (x : MessageRow). x.id) same in
      let left : without message_key m.id (r ∷ rs) ≡ rs = without_here message_key m.id r rs own ∙ without_gap message_key m.id 0 rs over in
      let is : put message_key w (r ∷ rs) ≡ w ∷ rs = ap (λ (xs : List MessageRow). insert message_key w xs) left ∙ inserted_first w rs over in
      let line : line_of w ≡ record (line_of r) { state = FinalLine Deleted } = ap (λ (x : MessageRow). let l : ReportedMessage = record (line_of x) { state = FinalLine Deleted } in l) (sym same) in
      subst (λ (xs : List MessageRow). IsChanged m.id (FinalLine Deleted) (message_lines (r ∷ rs)) (message_lines xs)) (sym is)
      (inl (own, line), same_lines m.id (FinalLine Deleted) rs (λ x i e. not_below m.id x.id (above_among message_key m.id x rs over i) (sym e)))

  changed_behind : (r : MessageRow) (rs : List MessageRow) → AllAbove message_key r.id rs → ¬ (r.id ≡ m.id) → message_at m.id rs ≡ Some m → Changed rs → Changed (r ∷ rs)
  changed_behind r rs above ne at rest =
      let low : r.id < m.id = above_among message_key r.id m rs above (found_among message_key m.id m rs at) in
      let is : put message_key w (r ∷ rs) ≡ r ∷ put message_key w rs =
      ap (λ (xs : List MessageRow). insert message_key w xs) (without_behind message_key m.id r rs ne) ∙ insert_behind message_key w r (without message_key m.id rs) (no_more_than r.id m.id low) in
      subst (λ (xs : List MessageRow). IsChanged m.id (FinalLine Deleted) (message_lines (r ∷ rs)) (message_lines xs)) (sym is) (inr (ne, refl), rest)

  pub changed_lines : (ms : List MessageRow) → Rises message_key ms → message_at m.id ms ≡ Some m → Changed ms
  changed_lines [] rises at = absurd cc
  changed_lines (r ∷ rs) rises at = ⊎_elim
      (λ (t : (r.id == m.id) ≡ true).
      let found : Some r ≡ Some m = sym (cond-true (r.id == m.id) (Some r) (message_at m.id rs) t) ∙ at in
      changed_first r rs rises.0 (same_Some r m found))
      (λ (t : (r.id == m.id) ≡ false).
      let behind : message_at m.id rs ≡ Some m = sym (cond-false (r.id == m.id) (Some r) (message_at m.id rs) t) ∙ at in
      changed_behind r rs rises.0 (eqb-false r.id m.id t) behind (changed_lines rs rises.1 behind))
      (cases_Bool (r.id == m.id))

-- ---- the event that gave an answer

one_more : (k : ℕ) → suc k ≡ 1 + k
one_more k = omega arith

within : (n k : ℕ) → n < k → suc n ≤ k
within n k l = omega (arith, l)

same_suc : (a b : ℕ) → suc a ≡ suc b → b ≡ a
same_suc a b e = omega (arith, e)

-- that event was answered so, between these reports
record IsAnsweredAt (script : Script) (after : ℕ → Report) (n : ℕ) (e : WorldEvent) (y : Answered) : Type 0 where
  some : List WorldEvent
  others : List WorldEvent
  parts : script.events ≡ some ++ e ∷ others
  step : IsStep script after some e others
  place : length some ≡ n
  answered : IsAnswered (1 + length some) step.first step.next y

module _ (script : Script) (after : ℕ → Report) (typed : AreTyped script.events) (reports : AreReports script after) where
  answered_at : (n : ℕ) (e : WorldEvent) (y : Answered) → numbered (suc n) script.events ≡ Some e → Among (record { event = suc n; answered = y }) (after (suc n)).answers → IsAnsweredAt script after n e y
  answered_at n e y at i =
      let a : Answer = record { event = suc n; answered = y } in
      let x : IsAnswerAt script after a = answer_at script after typed reports (suc n) (within n (length script.events) (slice_get_within script.events n e at)) a i in
      let place : length x.some ≡ n = same_suc n (length x.some) x.number in
      let here : Some x.event ≡ Some e =
      sym (at_place x.some x.others x.event) ∙ ap (λ (es : List WorldEvent). slice_get es (length x.some)) (sym x.step.parts) ∙ ap (λ (k : ℕ). slice_get script.events k) place ∙ at in
      subst (λ (z : WorldEvent). IsAnsweredAt script after n z y) (same_Some x.event e here)
      (record {
        some = x.some;
        others = x.others;
        parts = x.step.parts;
        step = x.step;
        place = place;
        answered = x.more ∙ ap (λ (k : ℕ). x.step.first.answers ++ record { event = k; answered = y } ∷ []) (x.number ∙ one_more (length x.some));
      })

  -- the message that a request names, in the report before it
  module _ (some : List WorldEvent) (e : WorldEvent) (others : List WorldEvent) (st : IsStep script after some e others) (name text : List ℕ) (m : MessageRow) (named : IsNamedBy name text st.first m) where
    own_id : m.id ≡ named.number
    own_id = found_key message_key named.number m st.first.centre.rows.messages named.there

    among_rows : Among m st.first.centre.rows.messages
    among_rows = found_among message_key named.number m st.first.centre.rows.messages named.there

    line_among : Among (line_of m) (after (length some)).table
    line_among = subst (λ (r : Report). Among (line_of m) r.table) (sym st.before) (line_there m st.first.centre.rows.messages among_rows)

    named_so : id_in text ≡ Some m.id
    named_so = same_id text ∙ named.reads ∙ ap (λ (k : ℕ). Some k) (sym own_id)

    owned : IsOwn script.events after name m.id
    owned =
        let its : named.account.name ≡ name = account_named named.place name st.first.centre.rows.setup.accounts named.account named.named named.its in
        own_is script after typed reports some e others st.parts st.first st.leads name m among_rows
        (subst (λ (z : List ℕ). is_account z m.originator ≡ true) its named.own)

  -- ---- query_sm

  abbrev table_of : PlayState → List ReportedMessage
  table_of c = message_lines c.centre.rows.messages

  found_truly : (some : List WorldEvent) (name text : List ℕ) (others : List WorldEvent) (st : IsStep script after some (Whole (Query name text)) others) (state : MessageState)
      → IsAnswered (1 + length some) st.first st.next (Found state) → IsFoundTruly script.events after (length some) name text state
  found_truly some name text others st state answered =
      let q : IsQueried (1 + length some) name text st.first st.next = query_true (1 + length some) name text st.first st.next st.is in
      let x = q.found state answered in
      record {
        line = line_of x.0;
        among = line_among some (Whole (Query name text)) others st name text x.0 x.1.0;
        named = named_so some (Whole (Query name text)) others st name text x.0 x.1.0;
        own = owned some (Whole (Query name text)) others st name text x.0 x.1.0;
        state = x.1.1;
        same = ap (λ (r : Report). r.table) st.behind ∙ ap (λ (ms : List MessageRow). message_lines ms) q.same ∙ ap (λ (r : Report). r.table) (sym st.before);
      }

  -- ---- cancel_sm

  is_cancelled : (some : List WorldEvent) (name text : List ℕ) (others : List WorldEvent) (st : IsStep script after some (Whole (Cancel name text)) others)
      → IsAnswered (1 + length some) st.first st.next (Status ESME_ROK) → IsCancelled script.events after (length some) name text
  is_cancelled some name text others st answered =
      let q : CancelsSo (1 + length some) name text st.first st.next = cancel_true (1 + length some) name text st.first st.next st.is in
      let x = q.done answered in
      let m : MessageRow = x.0 in
      let ms : List MessageRow = st.first.centre.rows.messages in
      let at : message_at m.id ms ≡ Some m = ap (λ (k : ℕ). message_at k ms) (own_id some (Whole (Cancel name text)) others st name text m x.1.0) ∙ x.1.0.there in
      let changed = changed_lines st.first.centre.moment m ms st.refines.sound.rows.messages.message_keys at in
      let now : IsChanged m.id (FinalLine Deleted) (table_of st.first) (table_of st.next) =
      subst (λ (xs : List MessageRow). IsChanged m.id (FinalLine Deleted) (message_lines ms) (message_lines xs)) (sym x.1.2) changed in
      record {
        line = line_of m;
        among = line_among some (Whole (Cancel name text)) others st name text m x.1.0;
        named = named_so some (Whole (Cancel name text)) others st name text m x.1.0;
        own = owned some (Whole (Cancel name text)) others st name text m x.1.0;
        pending = ap state_of x.1.1;
        deleted = subst (λ (r : Report). IsChanged m.id (FinalLine Deleted) (after (length some)).table r.table) (sym st.behind)
            (subst (λ (r : Report). IsChanged m.id (FinalLine Deleted) r.table (table_of st.next)) (sym st.before) now);
      }

  not_cancelled : (some : List WorldEvent) (name text : List ℕ) (others : List WorldEvent) (st : IsStep script after some (Whole (Cancel name text)) others) (y : Answered)
      → IsAnswered (1 + length some) st.first st.next y → ¬ (y ≡ Status ESME_ROK) → (after (suc (length some))).table ≡ (after (length some)).table
  not_cancelled some name text others st y answered fails =
      let q : CancelsSo (1 + length some) name text st.first st.next = cancel_true (1 + length some) name text st.first st.next st.is in
      ap (λ (r : Report). r.table) st.behind ∙ ap (λ (ms : List MessageRow). message_lines ms) (q.refused y answered fails) ∙ ap (λ (r : Report). r.table) (sym st.before)

pub queries_are : QueriesLaw
queries_are script after typed reports n name text state at i =
    let x = answered_at script after typed reports n (Whole (Query name text)) (Found state) at i in
    subst (λ (k : ℕ). IsFoundTruly script.events after k name text state) x.place (found_truly script after typed reports x.some name text x.others x.step state x.answered)

pub cancels_are : CancelsLaw
cancels_are script after typed reports n name text at = (
  λ i.
      let x = answered_at script after typed reports n (Whole (Cancel name text)) (Status ESME_ROK) at i in
      subst (λ (k : ℕ). IsCancelled script.events after k name text) x.place (is_cancelled script after typed reports x.some name text x.others x.step x.answered),
  λ y i fails.
      let x = answered_at script after typed reports n (Whole (Cancel name text)) y at i in
      subst (λ (k : ℕ). (after (suc k)).table ≡ (after k).table) x.place (not_cancelled script after typed reports x.some name text x.others x.step y x.answered fails),
)
