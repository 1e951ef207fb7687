-- The lines of messages are the rows of the centre, and those show the world's table.
use Rattle.std.proofs.Common.{◌≡◌, ℕ, List, [], ◌∷◌, refl, sym, ◌∙◌, ap, subst, inl, inr, ⊎_elim, Option, Some, None}
use Rattle.std.proofs.lemmas.Option.{same_Some}
use Rattle.sms_base.specs.Among.{Among}
use Rattle.sms_base.specs.declared.final_state.FinalState.{FinalState}
use Rattle.sms_centre_spec.specs.Draft.{Core, draft_of}
use Rattle.sms_centre_spec.specs.SoundCore.{IsSoundCore}
use Rattle.sms_centre_rows.specs.messages.Messages.{message_at, message_key}
use Rattle.sms_centre_rows.specs.declared.messages.message.MessageRow.{MessageRow}
use Rattle.sms_centre_rows.specs.declared.report_lines.MessageState.TheVariants.{Final as FinalLine}
use Rattle.sms_centre_rows.specs.declared.report_lines.ReportedMessage.{ReportedMessage}
use Rattle.sms_rows.specs.table.Table.{Rises}
use Rattle.sms_rows.proofs.table.Tables.{among_found, found_among, found_key}
use Rattle.sms_play.specs.CentreSide.{state_of}
use Rattle.sms_play.specs.Playing.{message_lines}
use Rattle.sms_world_model.proofs.Tables.{same_message}
use Rattle.sms_world_model.specs.Agreement.{FinalForGood, MessagesStay}
use Rattle.sms_base.specs.declared.address.Address.{Address}
use Rattle.sms_world_model.specs.Submission.{Submission}
use Rattle.sms_world_model.specs.World.{Final, Pending, IsRecorded, State, World}
use Rattle.sms_world.specs.centres_refine_the_world.CentreRefinement.{CentreRefines}
use Rattle.sms_world.specs.headline.SeenWorld.{IsStateOf, PartSeen, parts_by}

abbrev pub line_of : MessageRow → ReportedMessage
line_of m = record { id = m.id; from = m.source.digits; to = m.handset; state = state_of m.state }

pub row_of_line : (l : ReportedMessage) (ms : List MessageRow) → Among l (message_lines ms) → (m : MessageRow) × (Among m ms × (l ≡ line_of m))
row_of_line l [] i = absurd i
row_of_line l (m ∷ ms) i = ⊎_elim (λ (e : l ≡ line_of m). (m, (inl refl, e))) (λ (j : Among l (message_lines ms)). let r = row_of_line l ms j in (r.0, (inr r.1.0, r.1.1))) i

pub line_there : (m : MessageRow) (ms : List MessageRow) → Among m ms → Among (line_of m) (message_lines ms)
line_there m [] i = absurd i
line_there m (x ∷ xs) i = ⊎_elim (λ (e : m ≡ x). inl (ap (λ (z : MessageRow). line_of z) e)) (λ (j : Among m xs). inr (line_there m xs j)) i

pub state_final : (o : Option FinalState) (f : FinalState) → state_of o ≡ FinalLine f → o ≡ Some f
state_final None f e = absurd cc
state_final (Some g) f e =
    let same : g ≡ f = cc in ap (λ (z : FinalState). Some z) same

pub one_row : (a b : MessageRow) (ms : List MessageRow) → Rises message_key ms → Among a ms → Among b ms → a.id ≡ b.id → a ≡ b
one_row a b ms rises i j e =
    let p = among_found message_key a ms rises i in
    let q = among_found message_key b ms rises j in
    same_Some a b (sym p ∙ ap (λ (k : ℕ). message_at k ms) e ∙ q)

pub one_line : (a b : ReportedMessage) (ms : List MessageRow) → Rises message_key ms → Among a (message_lines ms) → Among b (message_lines ms) → a.id ≡ b.id → a ≡ b
one_line a b ms rises i j e =
    let p = row_of_line a ms i in
    let q = row_of_line b ms j in
    let same : p.0 ≡ q.0 = one_row p.0 q.0 ms rises p.1.0 q.1.0 (sym (ap (λ (z : ReportedMessage). z.id) p.1.1) ∙ e ∙ ap (λ (z : ReportedMessage). z.id) q.1.1) in
    p.1.1 ∙ ap (λ (z : MessageRow). line_of z) same ∙ sym q.1.1

-- ---- and the world's

pub same_end : (o : Option FinalState) (f : FinalState) (parts : ℕ → Option PartSeen) (st : State) → IsStateOf o parts st → st ≡ Final f → o ≡ Some f
same_end None f parts st is e =
    let bad : Pending is.0 ≡ Final f = sym is.1.0 ∙ e in absurd cc
same_end (Some g) f parts st is e =
    let both : Final g ≡ Final f = sym is ∙ e in
    let same : g ≡ f = cc in ap (λ (z : FinalState). Some z) same

-- where two centres see two worlds, and the first world's final states stay in the second, so do the lines
module _ (a b : Core) (w v : World) (sound : IsSoundCore a) (later : IsSoundCore b) (s : CentreRefines w (draft_of a) w) (t : CentreRefines v (draft_of b) v) (good : FinalForGood w v) where
  ended_stays : (m : MessageRow) (f : FinalState) → Among m a.rows.messages → m.state ≡ Some f → Among (line_of m) (message_lines b.rows.messages)
  ended_stays m f i ended =
      let at = among_found message_key m a.rows.messages sound.rows.messages.message_keys i in
      let x = s.rows.table.there m.id m at in
      let is : IsStateOf (Some f) (parts_by a.rows.parts m.id) x.1 = subst (λ (o : Option FinalState). IsStateOf o (parts_by a.rows.parts m.id) x.1) ended x.2.2 in
      let stands : IsRecorded w.table m.id x.0 (Final f) = subst (λ (z : State). IsRecorded w.table m.id x.0 z) is x.2.0 in
      let still : IsRecorded v.table m.id x.0 (Final f) = good m.id x.0 f stands in
      let n = t.rows.table.only m.id x.0 (Final f) still in
      let y = t.rows.table.there m.id n.0 n.1 in
      let own : n.0.id ≡ m.id = found_key message_key m.id n.0 b.rows.messages n.1 in
      let both = same_message v.table m.id y.0 x.0 y.1 (Final f) (subst (λ (k : ℕ). IsRecorded v.table k y.0 y.1) own y.2.0) still in
      let state : n.0.state ≡ Some f = same_end n.0.state f (parts_by b.rows.parts m.id) y.1 y.2.2 both.1 in
      let source : n.0.source ≡ m.source = sym y.2.1.source ∙ ap (λ (z : Submission). z.source) both.0 ∙ x.2.1.source in
      let handset : n.0.handset ≡ m.handset = sym y.2.1.handset ∙ ap (λ (z : Submission). z.handset) both.0 ∙ x.2.1.handset in
      let same : line_of n.0 ≡ line_of m = λ j. record { id = own j; from = (source j).digits; to = handset j; state = state_of ((state ∙ sym ended) j) } in
      subst (λ (l : ReportedMessage). Among l (message_lines b.rows.messages)) same (line_there n.0 b.rows.messages (found_among message_key m.id n.0 b.rows.messages n.1))

  -- a message of any state has its line there, too
  pub message_stays : MessagesStay w v → (l : ReportedMessage) → Among l (message_lines a.rows.messages)
      → (x : ReportedMessage) × (Among x (message_lines b.rows.messages) × (x.id ≡ l.id) × (x.from ≡ l.from) × (x.to ≡ l.to))
  message_stays all l i =
      let r = row_of_line l a.rows.messages i in
      let m : MessageRow = r.0 in
      let x = s.rows.table.there m.id m (among_found message_key m a.rows.messages sound.rows.messages.message_keys r.1.0) in
      let still = all m.id x.0 x.1 x.2.0 in
      let n = t.rows.table.only m.id x.0 still.0 still.1 in
      let y = t.rows.table.there m.id n.0 n.1 in
      let own : n.0.id ≡ m.id = found_key message_key m.id n.0 b.rows.messages n.1 in
      let both = same_message v.table m.id y.0 x.0 y.1 still.0 (subst (λ (k : ℕ). IsRecorded v.table k y.0 y.1) own y.2.0) still.1 in
      let source : n.0.source ≡ m.source = sym y.2.1.source ∙ ap (λ (z : Submission). z.source) both.0 ∙ x.2.1.source in
      let handset : n.0.handset ≡ m.handset = sym y.2.1.handset ∙ ap (λ (z : Submission). z.handset) both.0 ∙ x.2.1.handset in (
        line_of n.0,
        (
          line_there n.0 b.rows.messages (found_among message_key m.id n.0 b.rows.messages n.1),
          own ∙ ap (λ (z : ReportedMessage). z.id) (sym r.1.1),
          ap (λ (z : Address). z.digits) source ∙ ap (λ (z : ReportedMessage). z.from) (sym r.1.1),
          handset ∙ ap (λ (z : ReportedMessage). z.to) (sym r.1.1),
        ),
      )

  pub line_stays : (l : ReportedMessage) (f : FinalState) → Among l (message_lines a.rows.messages) → l.state ≡ FinalLine f → Among l (message_lines b.rows.messages)
  line_stays l f i e =
      let r = row_of_line l a.rows.messages i in
      let ended : r.0.state ≡ Some f = state_final r.0.state f (sym (ap (λ (z : ReportedMessage). z.state) r.1.1) ∙ e) in
      subst (λ (z : ReportedMessage). Among z (message_lines b.rows.messages)) (sym r.1.1) (ended_stays r.0 f r.1.0 ended)
