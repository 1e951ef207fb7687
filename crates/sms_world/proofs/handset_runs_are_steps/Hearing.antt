-- Frames of the links' own: CP-ACK and CP-ERROR are control, what is sent again is a copy.
use Rattle.std.proofs.Common.{◌≡◌, ℕ, ◌+◌, List, [], ◌∷◌, ◌++◌, refl, sym, ◌∙◌, ap, subst, inl, inr, Option, Some, None, Result, Ok, Err, length}
use Rattle.std.proofs.lemmas.List.{append-nil, append_assoc}
use Rattle.sms_base.specs.Among.{Among}
use Rattle.sms_control.specs.declared.fault.CpFault.{CpFault}
use Rattle.sms_control.specs.declared.link_state.LinkState.{LinkState}
use Rattle.sms_control.specs.declared.message.Cp.{Cp}
use Rattle.sms_control.specs.declared.message.Cp.TheVariants.{DataUnit as CpData, AckUnit as CpAck, ErrorUnit as CpError}
use Rattle.sms_control.specs.declared.out.Up.{Up}
use Rattle.sms_control.specs.declared.transaction.TransactionFlag.{TransactionFlag}
use Rattle.sms_control.specs.ControlReading.{cp_at}
use Rattle.sms_control.specs.LinkStep.{Step}
use Rattle.sms_control.proofs.ControlFrames.{cp_again}
use Rattle.sms_base.specs.declared.carried.Carried.{Carried as Carries}
use Rattle.sms_link.specs.declared.outgoing.Outgoing.{Outgoing}
use Rattle.sms_handset_draft.specs.Draft.{Draft, link_of, with_turn}
use Rattle.sms_link.specs.LinkTurn.{carried_by, carried_in, from_links, heard, of_links, still_under_way}
use Rattle.sms_world_model.specs.World.{World, Sent, Bare, Carried as Carried_frame, Frame}
use Rattle.sms_world_model.specs.WorldStep.{Control, Again}
use Rattle.sms_world_model.specs.ScriptRun.{Handed}
use Rattle.sms_world.specs.frames_pass_between_sides.FramesUp.{IsBare}
use Rattle.sms_world.specs.headline.SeenFrames.{line_up, octets_of, sent_as}
use Rattle.sms_world.specs.handset_runs_are_steps.RefinesLink.{RefinesLinks, WasSent}
use Rattle.sms_world.specs.handset_runs_are_steps.Refinement.{Refines}
use Rattle.sms_world.specs.handset_runs_are_steps.Stages.{AllMine, Moves, ReadsOne}
use Rattle.sms_world.proofs.handset_runs_are_steps.Moving.{Begins, frames_more, links_more, whole_both}

-- what the link does of its own accord
abbrev pub hears : Step → Draft → Draft
hears step d = with_turn (heard step (link_of d)) d

-- the state that the links come to, nothing sent
pub hears_nothing : (h : List ℕ) (b : World) (d : Draft) (w : World) (l : LinkState) (u : Option Carries) → RefinesLinks h w.bag l u d.answered → Refines h b d w
    → Refines h b (record d { links = l; under_way = u; frames = d.frames ++ [] }) w
hears_nothing h b d w l u k s =
    subst (λ (z : List Outgoing). Refines h b (record d { links = l; under_way = u; frames = z }) w) (sym (append-nil d.frames))
    (record { frames = s.frames; whole = s.whole; links = k; last = s.last; accepted = s.accepted; joined = s.joined; out = s.out; notices = s.notices; groups = s.groups })

-- a bare frame
pub hears_bare : (h : List ℕ) (b : World) (d : Draft) (w : World) (l : LinkState) (u : Option Carries) (frame : List ℕ) → IsBare (cp_at frame) → RefinesLinks h w.bag l u d.answered → Refines h b d w
    → Refines h b (record d { links = l; under_way = u; frames = d.frames ++ of_links frame None ∷ [] }) (record w { bag = Bare (length w.bag + 1) h ∷ w.bag })
hears_bare h b d w l u frame bare k s =
    let f : Outgoing = of_links frame None in record {
      frames = frames_more h d.frames (f ∷ []) b.bag w.bag s.frames;
      whole = whole_both d.frames (f ∷ []) s.whole (bare, tt);
      links = links_more h (Bare (length w.bag + 1) h) w.bag l u d.answered k;
      last = s.last;
      accepted = s.accepted;
      joined = s.joined;
      out = s.out;
      notices = s.notices;
      groups = s.groups;
    }

-- a frame that was sent
pub hears_again : (h : List ℕ) (b : World) (d : Draft) (w : World) (flag : TransactionFlag) (frame : List ℕ) (c : Carries) → WasSent h w.bag flag frame c → Refines h b d w
    → Refines h b (record d { frames = d.frames ++ of_links frame (Some c) ∷ [] }) (record w { bag = sent_as h (length w.bag + 1) frame (Some c) ∷ w.bag })
hears_again h b d w flag frame c sent s =
    let f : Outgoing = of_links frame (Some c) in record {
      frames = frames_more h d.frames (f ∷ []) b.bag w.bag s.frames;
      whole = whole_both d.frames (f ∷ []) s.whole (sent.0, tt);
      links = links_more h (sent_as h (length w.bag + 1) frame (Some c)) w.bag d.links d.under_way d.answered s.links;
      last = s.last;
      accepted = s.accepted;
      joined = s.joined;
      out = s.out;
      notices = s.notices;
      groups = s.groups;
    }

pub again_moves : (m : ℕ) (h : List ℕ) (b : World) (d : Draft) (w : World) (flag : TransactionFlag) (frame : List ℕ) (c : Carries) → WasSent h w.bag flag frame c → Refines h b d w
    → Moves (AllMine h) m h b (record d { frames = d.frames ++ of_links frame (Some c) ∷ [] }) w
again_moves m h b d w flag frame c sent s =
    let u : Frame = record { number = sent.2.0; handset = h; line = line_up c.kind; kind = c.kind; reference = c.reference; tpdu = octets_of c.kind frame; tag = c.tag } in
    (Again u ∷ [], ((tt, refl, tt), (sent.2.1, tt), hears_again h b d w flag frame c sent s))

-- what the links' own frames carry
pub bare_carries : (frame : List ℕ) (under_way answered : Option Carries) (r : Result Cp CpFault) → cp_at frame ≡ r → IsBare r → carried_in (cp_at frame) under_way answered ≡ None
bare_carries frame under_way answered (Ok (CpData t unit)) e i = absurd i
bare_carries frame under_way answered (Ok (CpAck t)) e i = ap (λ (z : Result Cp CpFault). carried_in z under_way answered) e
bare_carries frame under_way answered (Ok (CpError t cause)) e i = ap (λ (z : Result Cp CpFault). carried_in z under_way answered) e
bare_carries frame under_way answered (Err fault) e i = absurd i

pub again_carries : (h : List ℕ) (bag : List Sent) (flag : TransactionFlag) (frame : List ℕ) (c : Carries) (under_way answered : Option Carries) → WasSent h bag flag frame c
    → carried_in (cp_at frame) under_way answered ≡ carried_by flag under_way answered
again_carries h bag flag frame c under_way answered sent =
    let i = sent.0 in
    ap (λ (z : Result Cp CpFault). carried_in z under_way answered) (cp_again frame (CpData i.transaction i.unit) i.frame)
    ∙ ap (λ (z : TransactionFlag). carried_by z under_way answered) (i.flag ∙ sent.1)

-- CP-ACK or CP-ERROR alone
pub bare_alone : (m : ℕ) (h : List ℕ) (b : World) (d : Draft) (w : World) (l : LinkState) (frame : List ℕ) (up : Option Up) → IsBare (cp_at frame) → RefinesLinks h w.bag l (still_under_way up d.under_way) d.answered → Refines h b d w
    → Refines h b (hears (record { state = l; out = record { frames = frame ∷ []; up = up } }) d) (record w { bag = Bare (length w.bag + 1) h ∷ w.bag })
bare_alone m h b d w l frame up bare k s =
    subst (λ (z : Option Carries). Refines h b (record d { links = l; under_way = still_under_way up d.under_way; frames = d.frames ++ of_links frame z ∷ [] }) (record w { bag = Bare (length w.bag + 1) h ∷ w.bag }))
    (sym (bare_carries frame d.under_way d.answered (cp_at frame) refl bare)) (hears_bare h b d w l (still_under_way up d.under_way) frame bare k s)

pub bare_moves : (m : ℕ) (h : List ℕ) (b : World) (d : Draft) (w : World) (l : LinkState) (frame : List ℕ) (up : Option Up) → IsBare (cp_at frame) → RefinesLinks h w.bag l (still_under_way up d.under_way) d.answered → Refines h b d w
    → Moves (AllMine h) m h b (hears (record { state = l; out = record { frames = frame ∷ []; up = up } }) d) w
bare_moves m h b d w l frame up bare k s = (Control h ∷ [], ((tt, refl, tt), (tt, tt), bare_alone m h b d w l frame up bare k s))

-- CP-ACK, and the answer again
pub bare_and_again : (m : ℕ) (h : List ℕ) (b : World) (d : Draft) (w : World) (l : LinkState) (frame again : List ℕ) (up : Option Up) (flag : TransactionFlag) (c : Carries) → IsBare (cp_at frame)
    → WasSent h w.bag flag again c → carried_by flag d.under_way d.answered ≡ Some c → RefinesLinks h w.bag l (still_under_way up d.under_way) d.answered → Refines h b d w
    → Moves (AllMine h) m h b (hears (record { state = l; out = record { frames = frame ∷ again ∷ []; up = up } }) d) w
bare_and_again m h b d w l frame again up flag c bare sent is k s =
    let f : Outgoing = of_links frame None in
    let g : Outgoing = of_links again (Some c) in
    let u : Option Carries = still_under_way up d.under_way in
    let e : Draft = record d { links = l; under_way = u; frames = d.frames ++ f ∷ [] } in
    let first : Moves (AllMine h) m h b e w = (Control h ∷ [], ((tt, refl, tt), (tt, tt), hears_bare h b d w l u frame bare k s)) in
    let v : World = record w { bag = Bare (length w.bag + 1) h ∷ w.bag } in
    let both : Moves (AllMine h) m h b (record d { links = l; under_way = u; frames = (d.frames ++ f ∷ []) ++ g ∷ [] }) w =
    let y = again_moves m h b e v flag again c (sent.0, sent.1, (sent.2.0, inr sent.2.1)) (hears_bare h b d w l u frame bare k s) in
    (Control h ∷ y.0, ((tt, refl, y.1.0), (tt, y.1.1), y.1.2)) in
    let fs : (d.frames ++ f ∷ []) ++ g ∷ [] ≡ d.frames ++ from_links d.under_way d.answered (frame ∷ again ∷ []) =
    append_assoc d.frames (f ∷ []) (g ∷ [])
    ∙ ap (λ (z : Option Carries). d.frames ++ of_links frame z ∷ g ∷ []) (sym (bare_carries frame d.under_way d.answered (cp_at frame) refl bare))
    ∙ ap (λ (z : Option Carries). d.frames ++ of_links frame (carried_in (cp_at frame) d.under_way d.answered) ∷ of_links again z ∷ [])
    (sym (again_carries h w.bag flag again c d.under_way d.answered sent ∙ is)) in
    subst (λ (z : List Outgoing). Moves (AllMine h) m h b (record d { links = l; under_way = u; frames = z }) w) fs both

-- ---- a step that reads the frame

-- after CP-ACK it is the event's own
pub reads_then : (m number : ℕ) (h : List ℕ) (b : World) (e : Draft) (w : World) (u : Frame) → Among (Carried_frame u) w.bag → u.number ≡ number
    → ReadsOne m u h b e (record w { bag = Bare (length w.bag + 1) h ∷ w.bag }) → Begins m (Handed number) h b e w
reads_then m number h b e w u sent is (step, rest, (reads, own, follows, run, refines)) = record {
  control = Control h ∷ [];
  own = step ∷ [];
  follows = rest;
  is_control = (tt, tt);
  control_mine = (refl, tt);
  is_own = inr (u, step, (sent, is, reads, refl));
  own_mine = (own, tt);
  is_mine = follows;
  runs = (tt, run);
  refines = refines;
}

-- so is what reads nothing
pub moves_after : (m number : ℕ) (h : List ℕ) (b : World) (e : Draft) (w : World)
    → Moves (AllMine h) m h b e (record w { bag = Bare (length w.bag + 1) h ∷ w.bag }) → Begins m (Handed number) h b e w
moves_after m number h b e w (steps, (follows, run, refines)) = record {
  control = Control h ∷ [];
  own = [];
  follows = steps;
  is_control = (tt, tt);
  control_mine = (refl, tt);
  is_own = inl refl;
  own_mine = tt;
  is_mine = follows;
  runs = (tt, run);
  refines = refines;
}
