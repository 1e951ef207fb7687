-- A run after one that did not end in order begins behind what was given.
use Rattle.std.proofs.Common.{◌≡◌, ℕ, ◌+◌, ◌*◌, ◌/◌, ◌<◌, ◌≤◌, max, List, [], ◌∷◌, Option, Some, None, refl, sym, ◌∙◌, ap, inl, inr, arith}
use Rattle.std.specs.Prelude.{is_some, if◌then◌else◌}
use Rattle.sms_base.specs.Among.{Among}
use Rattle.sms_rows.proofs.table.Tables.{among_found, found_among, found_key}
use Rattle.sms_centre_rows.specs.declared.messages.message.MessageRow.{MessageRow}
use Rattle.sms_centre_rows.specs.messages.Messages.{message_at, message_key}
use Rattle.sms_centre_spec.specs.declared.event.CentreEvent.{CentreEvent}
use Rattle.sms_centre_spec.specs.declared.rows.Rows.{Rows}
use Rattle.sms_centre_spec.specs.CentreEvent.{happened}
use Rattle.sms_centre_spec.specs.Draft.{Core, core_of}
use Rattle.sms_centre_spec.specs.MessageNumbers.{first_number, greatest_of, next_number, numbers_of_step, step_after_loss, steps_to}
use Rattle.sms_centre_spec.specs.RunNumbers.{after, numbers_given}
use Rattle.sms_centre_spec.specs.SoundCore.{IsEvent, IsSoundCore}
use Rattle.sms_centre_spec.proofs.EventLaws.{stays_sound}
use Rattle.sms_centre_spec.proofs.NextNumbers.{below_next_number, some_next_number}
use Rattle.sms_centre_spec.proofs.NumbersSteady.{event_numbers, id_within}
use Rattle.sms_centre_spec.proofs.Resting.{adopted_is}

-- ---- steps

pub steps_rise : (step : ℕ) (found : Option ℕ) → step < step_after_loss step found
steps_rise step found = omega arith

-- as many steps reach it
reached : (n : ℕ) → n ≤ steps_to n * 100000
reached n = omega arith

pub behind_found : (step n : ℕ) (found : Option ℕ) → n ≤ greatest_of found + numbers_of_step → n < first_number (step_after_loss step found)
behind_found step n found low = let all = reached (greatest_of found) in omega (arith, low, all)

pub behind_skipped : (step n : ℕ) (found : Option ℕ) → n < first_number step + numbers_of_step → n < first_number (step_after_loss step found)
behind_skipped step n found low = omega (arith, low)

-- ---- how far one event raises the next number

module _ (event : CentreEvent) (c : Core) (s : IsSoundCore c) (is : IsEvent event) where
  abbrev next : ℕ
  next = next_number c.rows

  abbrev behind : Core
  behind = core_of (happened event c)

  -- a message that was there before
  old_below : (m x : MessageRow) → message_at m.id c.rows.messages ≡ Some x → m.id < next
  old_below m x at =
      let own = found_key message_key m.id x c.rows.messages at in
      let low = below_next_number c.rows x s.rows.messages.message_keys (found_among message_key m.id x c.rows.messages at) in
      omega (arith, own, low)

  below_after : (m : MessageRow) (o : Option MessageRow) → Among m behind.rows.messages → message_at m.id c.rows.messages ≡ o → m.id < next + 1
  below_after m (Some x) among at = let low = old_below m x at in omega (arith, low)
  below_after m None among none = let new = event_numbers event c s is m among none in omega (arith, new)

  below_still : (m : MessageRow) (o : Option MessageRow) → message_at next behind.rows.messages ≡ None → Among m behind.rows.messages → message_at m.id c.rows.messages ≡ o → m.id < next
  below_still m (Some x) nothing among at = old_below m x at
  below_still m None nothing among none =
      let new = event_numbers event c s is m among none in
      let there = among_found message_key m behind.rows.messages (stays_sound event c s is).rows.messages.message_keys among in
      let q : Some m ≡ None = sym there ∙ ap (λ (n : ℕ). message_at n behind.rows.messages) new ∙ nothing in absurd cc

  first_stays : behind.rows.setup.first ≡ c.rows.setup.first
  first_stays = ap (λ (x : Core). x.rows.setup.first) (sym (adopted_is event c))

  next_after : (o : Option MessageRow) → message_at next behind.rows.messages ≡ o → next_number behind.rows ≤ (if is_some o then 1 else 0) + next
  next_after (Some m) at =
      let first = first_stays in
      let within = id_within (next + 1) 1 behind.rows.messages (omega arith) (λ x among. below_after x (message_at x.id c.rows.messages) among refl) in
      omega (arith, first, within)
  next_after None nothing =
      let first = first_stays in
      let some = some_next_number c.rows s.rows.messages.message_keys in
      let within = id_within next 1 behind.rows.messages (omega (arith, some)) (λ x among. below_still x (message_at x.id c.rows.messages) nothing among refl) in
      omega (arith, first, within)

-- ---- and a run

next_in_run : (events : List CentreEvent) (c : Core) → IsSoundCore c → ((event : CentreEvent) → Among event events → IsEvent event)
    → IsSoundCore (after events c) × (next_number (after events c).rows ≤ numbers_given events c + next_number c.rows)
next_in_run [] c s are = (s, omega arith)
next_in_run (event ∷ events) c s are =
    let is : IsEvent event = are event (inl refl) in
    let one = next_after event c s is (message_at (next_number c.rows) (core_of (happened event c)).rows.messages) refl in
    let more = next_in_run events (core_of (happened event c)) (stays_sound event c s is) (λ x among. are x (inr among)) in
    let all = more.1 in (more.0, omega (arith, one, all))

pub lost_below : (events : List CentreEvent) (c : Core) (step : ℕ) (found : Option ℕ) → IsSoundCore c → ((event : CentreEvent) → Among event events → IsEvent event)
    → ((m : MessageRow) → Among m c.rows.messages → m.id ≤ greatest_of found) → c.rows.setup.first ≤ first_number step → numbers_given events c ≤ numbers_of_step
    → (m : MessageRow) → Among m (after events c).rows.messages → m.id < first_number (step_after_loss step found)
lost_below events c step found s are below first few m among =
    let run = next_in_run events c s are in
    let low = below_next_number (after events c).rows m run.0.rows.messages.message_keys among in
    let far = run.1 in
    let within = id_within (greatest_of found + 1) 1 c.rows.messages (omega arith) (λ x a. let l = below x a in omega (arith, l)) in
    let all = reached (greatest_of found) in
    omega (arith, low, far, within, first, few, all)
