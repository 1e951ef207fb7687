-- A frame comes: what the links do with it, and then what goes up.
use Rattle.std.proofs.Common.{◌≡◌, ℕ, ◌+◌, ◌<◌, List, [], ◌∷◌, cond, refl, sym, subst, inr, ⊎_elim, Option, Some, None, Result, Ok, Err, length, is_some}
use Rattle.std.specs.Prelude.{◌&&◌}
use Rattle.std.specs.Option.{option_map}
use Rattle.std.proofs.lemmas.Bool.{cond_both}
use Rattle.sms_base.specs.Among.{Among}
use Rattle.sms_base.specs.declared.holder.Holder.{Holder}
use Rattle.sms_control.specs.declared.fault.CpFault.{CpFault}
use Rattle.sms_control.specs.declared.link_state.Answer.{Answer}
use Rattle.sms_control.specs.declared.link_state.Begun.{Begun}
use Rattle.sms_control.specs.declared.link_state.LinkState.{LinkState}
use Rattle.sms_control.specs.declared.link_state.Opened.{Opened}
use Rattle.sms_control.specs.declared.message.Cp.{Cp}
use Rattle.sms_control.specs.declared.message.Cp.TheVariants.{DataUnit as CpData, AckUnit as CpAck, ErrorUnit as CpError}
use Rattle.sms_control.specs.declared.out.Up.TheVariants.{Unit as UnitUp, Failed}
use Rattle.sms_control.specs.declared.transaction.Transaction.{Transaction}
use Rattle.sms_control.specs.declared.transaction.TransactionFlag.{TransactionFlag}
use Rattle.sms_control.specs.declared.transaction.TransactionFlag.TheVariants.{FromOriginator, ToOriginator}
use Rattle.sms_control.specs.ControlReading.{cp_at}
use Rattle.sms_control.specs.LinkStep.{Step, quiet, sends, passes_up, acknowledgement, rejection, answer_frames, answer_of, answer_taken, opening_taken, ack_taken, error_taken, take_step, frames_of, is_same, has_begun, has_opened, opening_of}
use Rattle.sms_relay.specs.declared.fault.RelayFault.{RelayFault}
use Rattle.sms_relay.specs.declared.frame.Rp.{Rp}
use Rattle.sms_relay.specs.declared.frame.Rp.TheVariants.{DataUnit, AckUnit, ErrorUnit}
use Rattle.sms_relay.specs.RelayReading.{down_at}
use Rattle.sms_base.specs.declared.carried.Carried.{Carried as Carries}
use Rattle.sms_handset_draft.specs.Draft.{Draft, link_of}
use Rattle.sms_link.specs.LinkTurn.{heard, unit_ended}
use Rattle.sms_handset_draft.specs.FramesAndTicks.{frame_heard, went_up}
use Rattle.sms_handset_draft.specs.Outbox.{transfer_ended}
use Rattle.sms_handset.specs.SoundCore.{IsUnderWay}
use Rattle.sms_link.specs.Ending.{ended_by}
use Rattle.sms_link.specs.declared.ending.Side.TheVariants.{Handset as HandsetSide}
use Rattle.sms_link.specs.declared.ending.Ending.TheVariants.{Lost as LostEnd}
use Rattle.sms_link.specs.declared.ending.Upward.TheVariants.{Ended}
use Rattle.sms_handset_draft.specs.Receiving.{data_received, unit_received}
use Rattle.sms_handset.proofs.SoundDrafts.{SoundAt}
use Rattle.sms_base.specs.declared.carried.Kind.{Kind}
use Rattle.sms_base.specs.declared.carried.Kind.TheVariants.{Data, Ack, Error}
use Rattle.sms_world_model.specs.World.{World, Line, Frame, Sent, Carried, Bare}
use Rattle.sms_world_model.specs.ScriptRun.{Handed}
use Rattle.sms_world.specs.frames_pass_between_sides.FramesDown.{IsCarriedDown, IsHanded, frame_of}
use Rattle.sms_world.specs.frames_pass_between_sides.FramesUp.{IsBare}
use Rattle.sms_world.specs.handset_runs_are_steps.RefinesLink.{RefinesAnswer, RefinesBegun, RefinesLinks, RefinesOpened}
use Rattle.sms_world.specs.handset_runs_are_steps.Refinement.{Refines}
use Rattle.sms_world.specs.handset_runs_are_steps.Stages.{AllMine, Moves, ReadsOne}
use Rattle.sms_world.proofs.handset_runs_are_steps.Concluding.{Ends, ack_law, ack_of, error_law, error_of, failed_law}
use Rattle.sms_world.proofs.handset_runs_are_steps.DataArrives.{data_law}
use Rattle.sms_world.proofs.handset_runs_are_steps.Hearing.{hears, bare_alone, bare_and_again, bare_moves, hears_nothing, moves_after, reads_then}
use Rattle.sms_world.proofs.frames_pass_between_sides.Linking.{ack_read, data_is, rejection_read, taken_is}
use Rattle.sms_world.proofs.handset_runs_are_steps.Moving.{Begins, only_follows, stays}

-- what the link did of its own accord, and what went up
abbrev frame_reported : Holder → Step → Draft → Draft
frame_reported tag step d = frame_heard tag (heard step (link_of d)) d

pub bare_ack : (t : Transaction) → t.identifier < 7 → IsBare (cp_at (acknowledgement t))
bare_ack t l = subst (λ (z : Result Cp CpFault). IsBare z) (sym (ack_read t l)) tt

pub bare_rejection : (t : Transaction) → t.identifier < 7 → IsBare (cp_at (rejection t))
bare_rejection t l = subst (λ (z : Result Cp CpFault). IsBare z) (sym (rejection_read t l)) tt

-- ---- a repeated opening: CP-ACK, and the answer again where there is one

again_law : (m : ℕ) (h : List ℕ) (b : World) (d : Draft) (w : World) (frame : List ℕ) (a : Option Answer) → IsBare (cp_at frame) → RefinesAnswer h w.bag d.answered a → Refines h b d w
    → Moves (AllMine h) m h b (hears (sends (frame ∷ frames_of a) d.links) d) w
again_law m h b d w frame None bare k s = bare_moves m h b d w d.links frame None bare s.links s
again_law m h b d w frame (Some a) bare k s = bare_and_again m h b d w d.links frame a.frame None ToOriginator k.0 bare k.1.1 k.1.0 s.links s

repeat_law : (m : ℕ) (h : List ℕ) (b : World) (d : Draft) (w : World) (frame : List ℕ) (o : Option Opened) → IsBare (cp_at frame) → RefinesOpened h w.bag d.answered o → Refines h b d w
    → Moves (AllMine h) m h b (hears (sends (frame ∷ answer_frames o) d.links) d) w
repeat_law m h b d w frame None bare k s = again_law m h b d w frame None bare tt s
repeat_law m h b d w frame (Some o) bare k s = again_law m h b d w frame o.answer bare k.1 s

-- ---- data of the centre

module _ (m : ℕ) (h : List ℕ) (number : ℕ) (tag : Holder) (b : World) (d : Draft) (w : World) (sound : SoundAt d) (s : Refines h b d w) (frame : List ℕ) (t : Transaction) (unit : List ℕ) (low : t.identifier < 7) where
  module _ (r : ℕ) (octets centre : List ℕ) (told : down_at unit ≡ Ok (DataUnit r centre octets)) (sent : Among (Carried (frame_of h number r octets tag)) w.bag) where
    new_law : Begins m (Handed number) h b
        (frame_reported tag (passes_up (acknowledgement t ∷ []) (UnitUp FromOriginator unit) (record d.links { opened = Some (record { identifier = t.identifier; opening = frame; answer = None }) })) d) w
    new_law =
        let l : LinkState = record d.links { opened = Some (record { identifier = t.identifier; opening = frame; answer = None }) } in
        let e : Draft = hears (passes_up (acknowledgement t ∷ []) (UnitUp FromOriginator unit) l) d in
        let v : World = record w { bag = Bare (length w.bag + 1) h ∷ w.bag } in
        let k : RefinesLinks h w.bag l d.under_way d.answered = record { next = s.links.next; opened = (low, tt); begun = s.links.begun } in
        let x : Refines h b e v = bare_alone m h b d w l (acknowledgement t) (Some (UnitUp FromOriginator unit)) (bare_ack t low) k s in
        let y : ReadsOne m (frame_of h number r octets tag) h b (data_received r tag octets e) v =
        data_law m h number r tag octets b e v (record { sent = inr sent; opening = record { identifier = t.identifier; opening = frame; answer = None }; awaits = (refl, refl) }) sound x in
        subst (λ (z : Result Rp RelayFault). Begins m (Handed number) h b (unit_received tag unit z e) w) (sym told)
        (reads_then m number h b (data_received r tag octets e) w (frame_of h number r octets tag) sent refl y)

    pub opening_law : Begins m (Handed number) h b (frame_reported tag (opening_taken frame unit t d.links) d) w
    opening_law =
        let ack = acknowledgement t in
        let l : LinkState = record d.links { opened = Some (record { identifier = t.identifier; opening = frame; answer = None }) } in
        cond_both (is_same frame (opening_of d.links.opened)) (sends (ack ∷ answer_frames d.links.opened) d.links)
        (cond (is_same frame d.links.last_opening) (sends (ack ∷ []) d.links) (passes_up (ack ∷ []) (UnitUp FromOriginator unit) l))
        (λ (z : Step). Begins m (Handed number) h b (frame_reported tag z d) w)
        (λ e. only_follows m h number b (hears (sends (ack ∷ answer_frames d.links.opened) d.links) d) w (repeat_law m h b d w ack d.links.opened (bare_ack t low) s.links.opened s))
        (λ e. cond_both (is_same frame d.links.last_opening) (sends (ack ∷ []) d.links) (passes_up (ack ∷ []) (UnitUp FromOriginator unit) l)
        (λ (z : Step). Begins m (Handed number) h b (frame_reported tag z d) w)
        (λ f. only_follows m h number b (hears (sends (ack ∷ []) d.links) d) w (bare_moves m h b d w d.links ack None (bare_ack t low) s.links s))
        (λ f. new_law))

  -- ---- an answer of the centre

  ends_then : (u : Frame) → Among (Carried u) w.bag → u.number ≡ number → (e : Draft) → Ends m u h b e (record w { bag = Bare (length w.bag + 1) h ∷ w.bag }) → Begins m (Handed number) h b e w
  ends_then u sent is e x = ⊎_elim
      (λ (y : ReadsOne m u h b e (record w { bag = Bare (length w.bag + 1) h ∷ w.bag })). reads_then m number h b e w u sent is y)
      (λ (y : Moves (AllMine h) m h b e (record w { bag = Bare (length w.bag + 1) h ∷ w.bag })). moves_after m number h b e w y)
      x

  module _ (u : Frame) (sent : Among (Carried u) w.bag) (is : u.number ≡ number) (rp : Result Rp RelayFault) (told : down_at unit ≡ rp)
      (law : (e : Draft) (v : World) → v ≡ record w { bag = Bare (length w.bag + 1) h ∷ w.bag } → (c : Carries) → IsUnderWay (Some c) e.rows.outbox → Refines h b e v
      → Ends m u h b (transfer_ended c (ended_by c.reference rp) e) v) where
    -- the transfer that was under way, if there was one, has ended
    up_law : (e : Draft) (c : Option Carries) → IsUnderWay c e.rows.outbox → Refines h b e (record w { bag = Bare (length w.bag + 1) h ∷ w.bag })
        → Begins m (Handed number) h b (went_up tag (option_map (unit_ended HandsetSide unit) c) e) w
    up_law e None x k =
        moves_after m number h b e w (stays m h b e (record w { bag = Bare (length w.bag + 1) h ∷ w.bag }) k)
    up_law e (Some c) x k =
        subst (λ (z : Result Rp RelayFault). Begins m (Handed number) h b (transfer_ended c (ended_by c.reference z) e) w) (sym told)
        (ends_then u sent is (transfer_ended c (ended_by c.reference rp) e) (law e (record w { bag = Bare (length w.bag + 1) h ∷ w.bag }) refl c x k))

    pub answer_law : Begins m (Handed number) h b (frame_reported tag (answer_taken frame unit t d.links) d) w
    answer_law =
        let ack = acknowledgement t in
        let l : LinkState = record d.links { begun = None; last_answer = Some frame } in
        let e : Draft = hears (passes_up (ack ∷ []) (UnitUp ToOriginator unit) l) d in
        let k : RefinesLinks h w.bag l None d.answered = record { next = s.links.next; opened = s.links.opened; begun = tt } in
        cond_both (has_begun t.identifier d.links.begun) (passes_up (ack ∷ []) (UnitUp ToOriginator unit) l)
        (cond (is_same frame d.links.last_answer) (sends (ack ∷ []) d.links) (sends (rejection t ∷ []) d.links))
        (λ (z : Step). Begins m (Handed number) h b (frame_reported tag z d) w)
        (λ q. up_law e d.under_way sound.under_way (bare_alone m h b d w l ack (Some (UnitUp ToOriginator unit)) (bare_ack t low) k s))
        (λ q. cond_both (is_same frame d.links.last_answer) (sends (ack ∷ []) d.links) (sends (rejection t ∷ []) d.links)
        (λ (z : Step). Begins m (Handed number) h b (frame_reported tag z d) w)
        (λ f. only_follows m h number b (hears (sends (ack ∷ []) d.links) d) w (bare_moves m h b d w d.links ack None (bare_ack t low) s.links s))
        (λ f. only_follows m h number b (hears (sends (rejection t ∷ []) d.links) d) w (bare_moves m h b d w d.links (rejection t) None (bare_rejection t low) s.links s)))

-- ---- CP-ACK and CP-ERROR

-- the links change, and nothing is sent or goes up
quiet_law : (m : ℕ) (h : List ℕ) (number : ℕ) (tag : Holder) (b : World) (d : Draft) (w : World) (l : LinkState) → RefinesLinks h w.bag l d.under_way d.answered → Refines h b d w
    → Begins m (Handed number) h b (frame_reported tag (quiet l) d) w
quiet_law m h number tag b d w l k s = only_follows m h number b (hears (quiet l) d) w (stays m h b (hears (quiet l) d) w (hears_nothing h b d w l d.under_way k s))

unrepeated : (h : List ℕ) (bag : List Sent) (u : Option Carries) (o : Option Begun) → RefinesBegun h bag u o → RefinesBegun h bag u (option_map (λ (x : Begun). record x { repetition = None }) o)
unrepeated h bag u None k = tt
unrepeated h bag u (Some x) k = k

ack_frame_law : (m : ℕ) (h : List ℕ) (number : ℕ) (tag : Holder) (b : World) (d : Draft) (w : World) (flag : TransactionFlag) (i : ℕ) → Refines h b d w
    → Begins m (Handed number) h b (frame_reported tag (ack_taken flag i d.links) d) w
ack_frame_law m h number tag b d w ToOriginator i s =
    let l : LinkState = record d.links { begun = option_map (λ (x : Begun). record x { repetition = None }) d.links.begun } in
    cond_both (has_begun i d.links.begun) (quiet l) (quiet d.links) (λ (z : Step). Begins m (Handed number) h b (frame_reported tag z d) w)
    (λ e. quiet_law m h number tag b d w l (record { next = s.links.next; opened = s.links.opened; begun = unrepeated h w.bag d.under_way d.links.begun s.links.begun }) s)
    (λ e. quiet_law m h number tag b d w d.links s.links s)
ack_frame_law m h number tag b d w FromOriginator i s =
    let l : LinkState = record d.links { opened = None; last_opening = opening_of d.links.opened } in
    cond_both (has_opened i d.links.opened && is_some (answer_of d.links.opened)) (quiet l) (quiet d.links) (λ (z : Step). Begins m (Handed number) h b (frame_reported tag z d) w)
    (λ e. quiet_law m h number tag b d w l (record { next = s.links.next; opened = tt; begun = s.links.begun }) s)
    (λ e. quiet_law m h number tag b d w d.links s.links s)

-- the transfer that was under way, if there was one, is lost
lost_up : (m : ℕ) (h : List ℕ) (number : ℕ) (tag : Holder) (b : World) (e : Draft) (w : World) (c : Option Carries) → IsUnderWay c e.rows.outbox → Refines h b e w
    → Begins m (Handed number) h b (went_up tag (option_map (λ (transfer : Carries). Ended transfer LostEnd) c) e) w
lost_up m h number tag b e w None x s = only_follows m h number b e w (stays m h b e w s)
lost_up m h number tag b e w (Some c) x s = only_follows m h number b (transfer_ended c LostEnd e) w (failed_law m h b e w c x s)

error_frame_law : (m : ℕ) (h : List ℕ) (number : ℕ) (tag : Holder) (b : World) (d : Draft) (w : World) (flag : TransactionFlag) (i : ℕ) → SoundAt d → Refines h b d w
    → Begins m (Handed number) h b (frame_reported tag (error_taken flag i d.links) d) w
error_frame_law m h number tag b d w ToOriginator i sound s =
    let l : LinkState = record d.links { begun = None } in
    let e : Draft = hears (passes_up [] Failed l) d in
    let k : RefinesLinks h w.bag l None d.answered = record { next = s.links.next; opened = s.links.opened; begun = tt } in
    cond_both (has_begun i d.links.begun) (passes_up [] Failed l) (quiet d.links) (λ (z : Step). Begins m (Handed number) h b (frame_reported tag z d) w)
    (λ q. lost_up m h number tag b e w d.under_way sound.under_way (hears_nothing h b d w l None k s))
    (λ q. quiet_law m h number tag b d w d.links s.links s)
error_frame_law m h number tag b d w FromOriginator i sound s =
    let l : LinkState = record d.links { opened = None } in
    cond_both (has_opened i d.links.opened) (quiet l) (quiet d.links) (λ (z : Step). Begins m (Handed number) h b (frame_reported tag z d) w)
    (λ e. quiet_law m h number tag b d w l (record { next = s.links.next; opened = tt; begun = s.links.begun }) s)
    (λ e. quiet_law m h number tag b d w d.links s.links s)

-- ---- any frame

module _ (m : ℕ) (h : List ℕ) (number : ℕ) (tag : Holder) (b : World) (d : Draft) (w : World) (sound : SoundAt d) (s : Refines h b d w) where
  bare_law : (frame : List ℕ) (c : Result Cp CpFault) → cp_at frame ≡ c → IsBare c → Begins m (Handed number) h b (frame_reported tag (take_step frame d.links) d) w
  bare_law frame (Ok (CpData t unit)) e i = absurd i
  bare_law frame (Ok (CpAck t)) e i =
      subst (λ (z : Step). Begins m (Handed number) h b (frame_reported tag z d) w) (sym (taken_is frame d.links (Ok (CpAck t)) e)) (ack_frame_law m h number tag b d w t.flag t.identifier s)
  bare_law frame (Ok (CpError t cause)) e i =
      subst (λ (z : Step). Begins m (Handed number) h b (frame_reported tag z d) w) (sym (taken_is frame d.links (Ok (CpError t cause)) e)) (error_frame_law m h number tag b d w t.flag t.identifier sound s)
  bare_law frame (Err fault) e i = absurd i

  -- a frame of the world, by its kind
  kind_law : (frame : List ℕ) (kind : Kind) (r : ℕ) (octets : List ℕ) (line : Line) → IsCarriedDown (record { number = number; handset = h; line = line; kind = kind; reference = r; tpdu = octets; tag = tag }) frame
      → Among (Carried (record { number = number; handset = h; line = line; kind = kind; reference = r; tpdu = octets; tag = tag })) w.bag
      → Begins m (Handed number) h b (frame_reported tag (take_step frame d.links) d) w
  kind_law frame Data r octets line c sent =
      subst (λ (z : Step). Begins m (Handed number) h b (frame_reported tag z d) w) (sym (data_is frame d.links c.transaction c.unit FromOriginator c.frame c.flag))
      (opening_law m h number tag b d w sound s frame c.transaction c.unit c.frame.value.0 r octets c.unit_is.0 c.unit_is.1
      (subst (λ (z : Line). Among (Carried (record { number = number; handset = h; line = z; kind = Data; reference = r; tpdu = octets; tag = tag })) w.bag) c.line sent))
  kind_law frame Ack r octets line c sent =
      subst (λ (z : Step). Begins m (Handed number) h b (frame_reported tag z d) w) (sym (data_is frame d.links c.transaction c.unit ToOriginator c.frame c.flag))
      (answer_law m h number tag b d w sound s frame c.transaction c.unit c.frame.value.0 (ack_of h number r octets tag)
      (subst (λ (z : Line). Among (Carried (record { number = number; handset = h; line = z; kind = Ack; reference = r; tpdu = octets; tag = tag })) w.bag) c.line sent) refl (Ok (AckUnit r c.unit_is.0)) c.unit_is.1
      (λ e v q z y x. ack_law m h number r tag octets c.unit_is.0 b e v
      (subst (λ (z : World). Among (Carried (ack_of h number r octets tag)) z.bag) (sym q)
      (inr (subst (λ (z : Line). Among (Carried (record { number = number; handset = h; line = z; kind = Ack; reference = r; tpdu = octets; tag = tag })) w.bag) c.line sent))) z y x))
  kind_law frame Error r octets line c sent =
      subst (λ (z : Step). Begins m (Handed number) h b (frame_reported tag z d) w) (sym (data_is frame d.links c.transaction c.unit ToOriginator c.frame c.flag))
      (answer_law m h number tag b d w sound s frame c.transaction c.unit c.frame.value.0 (error_of h number r octets tag)
      (subst (λ (z : Line). Among (Carried (record { number = number; handset = h; line = z; kind = Error; reference = r; tpdu = octets; tag = tag })) w.bag) c.line sent) refl (Ok (ErrorUnit r c.unit_is.0 c.unit_is.1)) c.unit_is.2
      (λ e v q z y x. error_law m h number r tag octets c.unit_is.0 c.unit_is.1 b e v
      (subst (λ (z : World). Among (Carried (error_of h number r octets tag)) z.bag) (sym q)
      (inr (subst (λ (z : Line). Among (Carried (record { number = number; handset = h; line = z; kind = Error; reference = r; tpdu = octets; tag = tag })) w.bag) c.line sent))) z y x))

  frame_law : (frame : List ℕ) (u : Frame) → Among (Carried u) w.bag → u.number ≡ number → u.handset ≡ h → u.tag ≡ tag → IsCarriedDown u frame
      → Begins m (Handed number) h b (frame_reported tag (take_step frame d.links) d) w
  frame_law frame u sent a e g c =
      let q : u ≡ record { number = number; handset = h; line = u.line; kind = u.kind; reference = u.reference; tpdu = u.tpdu; tag = tag } =
      λ i. record { number = a i; handset = e i; line = u.line; kind = u.kind; reference = u.reference; tpdu = u.tpdu; tag = g i } in
      kind_law frame u.kind u.reference u.tpdu u.line (subst (λ (z : Frame). IsCarriedDown z frame) q c) (subst (λ (z : Frame). Among (Carried z) w.bag) q sent)

  pub handed_law : (frame : List ℕ) → IsHanded h number frame tag w → Begins m (Handed number) h b (frame_reported tag (take_step frame d.links) d) w
  handed_law frame x = ⊎_elim
      (λ (i : IsBare (cp_at frame)). bare_law frame (cp_at frame) refl i)
      (λ (y : (u : Frame) × (Among (Carried u) w.bag × (u.number ≡ number) × (u.handset ≡ h) × (u.tag ≡ tag) × IsCarriedDown u frame)). frame_law frame y.0 y.1.0 y.1.1 y.1.2 y.1.3 y.1.4)
      x
