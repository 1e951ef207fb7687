-- What may be forgotten may be forgotten behind every event too.
use Rattle.std.proofs.Common.{◌≡◌, ℕ, ◌+◌, ◌<◌, List, [], ◌∷◌, Bool, true, refl, sym, ◌∙◌, ap, subst, inl, inr, arith}
use Rattle.std.specs.Prelude.{is_some}
use Rattle.sms_base.specs.Among.{Among}
use Rattle.sms_base.specs.declared.address.Address.{Address}
use Rattle.sms_rows.specs.table.Table.{Rises}
use Rattle.sms_rows.proofs.table.Tables.{among_found, found_among, found_key}
use Rattle.sms_centre_rows.specs.declared.messages.message.MessageRow.{MessageRow}
use Rattle.sms_centre_rows.specs.messages.Messages.{id_after, message_key, next_id}
use Rattle.sms_centre_rows.specs.messages.SplitReferences.{is_between}
use Rattle.sms_centre_spec.specs.declared.event.CentreEvent.{CentreEvent}
use Rattle.sms_centre_spec.specs.declared.rows.Rows.{Rows}
use Rattle.sms_centre_spec.specs.CentreEvent.{happened}
use Rattle.sms_centre_spec.specs.Draft.{Core, Draft, core_of}
use Rattle.sms_centre_spec.specs.Keeping.{Keeps}
use Rattle.sms_centre_spec.specs.SoundCore.{IsEvent, IsSoundCore}
use Rattle.sms_centre_spec.proofs.EventLaws.{keeps_rows}
use Rattle.sms_centre_spec.proofs.NextNumbers.{below_next_id}
use Rattle.sms_centre_spec.proofs.Resting.{base_of, happened_consistent}
use Rattle.sms_centre_spec.specs.forgetting.Forgetting.{MayGo}
use Rattle.sms_centre_spec.specs.forgetting.Forgot.{AsksOther, CanForget, Stays}
use Rattle.sms_centre_spec.proofs.forgetting.Everywhere.{event_same}

last_is : (m : MessageRow) (ms : List MessageRow) (n : ℕ) → (w : MessageRow) × (Among w (m ∷ ms) × (w.id + 1 ≡ id_after n (m ∷ ms)))
last_is m [] n = (m, (inl refl, refl))
last_is m (x ∷ xs) n = let f = last_is x xs (m.id + 1) in (f.0, (inr f.1.0, f.1.1))

-- the next number is never lower than it was
grows : (before after : Rows) (id : ℕ) → Rises message_key before.messages → Rises message_key after.messages → Keeps before after → id + 1 < next_id before.messages → id + 1 < next_id after.messages
grows before after id rises next keeps l = of before.messages refl
  where
    of : (ms : List MessageRow) → before.messages ≡ ms → id + 1 < next_id after.messages
    of [] e = let low : id + 1 < 1 = subst (λ (x : List MessageRow). id + 1 < next_id x) e l in absurd (omega (arith, low))
    of (m ∷ ms) e =
        let f = last_is m ms 1 in
        let w : MessageRow = f.0 in
        let there : Among w before.messages = subst (λ (x : List MessageRow). Among w x) (sym e) f.1.0 in
        let last : w.id + 1 ≡ next_id before.messages = f.1.1 ∙ ap (λ (x : List MessageRow). next_id x) (sym e) in
        let g = keeps.messages w.id w (among_found message_key w before.messages rises there) in
        let own : g.0.id ≡ w.id = found_key message_key w.id g.0 after.messages g.1.0 in
        let high : g.0.id < next_id after.messages = below_next_id 1 g.0 after.messages next (found_among message_key w.id g.0 after.messages g.1.0) in
        omega (arith, l, last, own, high)

module _ (goes : ℕ → Bool) (event : CentreEvent) (c : Core) (s : IsSoundCore c) (is : IsEvent event) (can : CanForget goes c) (other : AsksOther goes event) where
  abbrev d : Draft
  d = happened event c

  abbrev after : Rows
  after = (core_of d).rows

  k : Stays goes d.store
  k = (event_same goes event c s.rows can other).stays

  keeps : Keeps c.rows after
  keeps = keeps_rows event c s is

  rests : base_of d.store ≡ c.rows
  rests = happened_consistent event c

  was : (m : MessageRow) → Among m after.messages → goes m.id ≡ true → Among m c.rows.messages
  was m a g = subst (λ (r : Rows). Among m r.messages) rests (k.old m a g)

  pub may_behind : MayGo goes after
  may_behind = record {
    ended = k.ended;
    closed = k.closed;
    place = k.place;
    id = λ m a g. grows c.rows after m.id s.rows.messages.message_keys k.message_keys keeps (can.given m.id g);
    later = λ m n a g e.
        let f = can.may.later m n (was m a g) g e in
        let w : MessageRow = f.0 in
        let x = keeps.messages w.id w (among_found message_key w c.rows.messages s.rows.messages.message_keys f.1.0) in
        let own : x.0.id ≡ w.id = found_key message_key w.id x.0 after.messages x.1.0 in
        let low : m.id < w.id = f.1.1.0 in
        let high : m.id < x.0.id = omega (arith, own, low) in
        let between : is_between m.source m.handset x.0 ≡ true =
        ap (λ (y : Address). is_between m.source m.handset (record x.0 { source = y })) x.1.1.source
        ∙ ap (λ (y : List ℕ). is_between m.source m.handset (record x.0 { source = w.source; handset = y })) x.1.1.handset ∙ f.1.1.1.0 in
        (x.0, (found_among message_key w.id x.0 after.messages x.1.0, (high, (between, ap is_some x.1.1.split ∙ f.1.1.1.1))));
  }

  pub given_behind : (id : ℕ) → goes id ≡ true → id + 1 < next_id after.messages
  given_behind id g = grows c.rows after id s.rows.messages.message_keys k.message_keys keeps (can.given id g)
