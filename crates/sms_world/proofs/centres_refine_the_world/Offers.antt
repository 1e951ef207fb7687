-- What is offered to a handset is one step: the data of what waits there.
use Rattle.std.proofs.Common.{◌≡◌, ◌⊎◌, ℕ, ◌+◌, ◌<◌, ◌≤◌, arith, List, [], ◌∷◌, ◌++◌, Bool, true, false, refl, sym, ◌∙◌, ap, subst, inl, inr, ⊎_elim, length, Option, Some, None, Result, Ok}
use Rattle.std.specs.Prelude.{◌&&◌, not}
use Rattle.std.proofs.lemmas.Bool.{and_parts, cond_both, cond-false}
use Rattle.sms_base.specs.Among.{Among}
use Rattle.sms_base.specs.declared.carried.Carried.{Carried}
use Rattle.sms_base.specs.declared.carried.Kind.TheVariants.{Data}
use Rattle.sms_control.proofs.ControlFrames.{cp_again}
use Rattle.sms_control.specs.ControlGrammar.{spelled}
use Rattle.sms_control.specs.LinkStep.{Step, begin_step, in_transaction, is_busy, started}
use Rattle.sms_control.specs.declared.fault.CpFault.{CpFault}
use Rattle.sms_control.specs.declared.message.Cp.{Cp}
use Rattle.sms_control.specs.declared.message.Cp.TheVariants.{DataUnit as CpData}
use Rattle.sms_control.specs.declared.transaction.TransactionFlag.TheVariants.{FromOriginator}
use Rattle.sms_link.specs.LinkTurn.{Turn, begun, carrying, of_kind, started as turn_started, still}
use Rattle.sms_relay.proofs.UnitLaws.{down_again}
use Rattle.sms_relay.proofs.UnitLengths.{down_long}
use Rattle.sms_relay.specs.RelayGrammar.{IsCentre, data_down}
use Rattle.sms_relay.specs.RelayReading.{down_at}
use Rattle.sms_relay.specs.declared.fault.RelayFault.{RelayFault}
use Rattle.sms_relay.specs.declared.frame.Rp.{Rp}
use Rattle.sms_relay.specs.declared.frame.Rp.TheVariants.{DataUnit}
use Rattle.sms_tpdu.proofs.MoreBits.{more_messages_same}
use Rattle.sms_tpdu.specs.AddressGrammar.{relay_address}
use Rattle.sms_tpdu.specs.MoreMessages.{with_more_messages}
use Rattle.sms_centre_rows.specs.waiting.Links.{Links, is_ready, link_of, or_new_link_to, link_at, read_for, to_handset, turn_link, turned as link_turned, with_link}
use Rattle.sms_centre_rows.specs.waiting.Waiting.{next, waits_beside}
use Rattle.sms_centre_rows.specs.declared.waiting.handset.HandsetRow.{HandsetRow}
use Rattle.sms_centre_rows.specs.declared.waiting.handset_link.HandsetLink.{HandsetLink}
use Rattle.sms_centre_rows.specs.declared.waiting.handset_link.Sent.{Sent as SentRow}
use Rattle.sms_centre_rows.specs.declared.waiting.queued_part.QueuedPart.{QueuedPart}
use Rattle.sms_centre_spec.proofs.SoundLinks.{among_with, link_found}
use Rattle.sms_centre_spec.proofs.SoundStores.{SoundStore}
use Rattle.sms_centre_spec.proofs.SoundOffers.{next_waits}
use Rattle.sms_centre_spec.specs.Draft.{Draft, handsets_in, waiting_in}
use Rattle.sms_centre_spec.specs.CentreEvent.{follow}
use Rattle.sms_centre_spec.specs.Sessions.{send}
use Rattle.sms_world.proofs.frames_pass_between_sides.RunsOn.{end_both, run_both}
use Rattle.sms_centre_rows.specs.waiting.Keys.{queued_key}
use Rattle.sms_centre_spec.specs.Offering.{holder_of, is_made, offer_all, offer_among, offer_queued, offer_on, offer_to, read_of, tpdu_of, unit_of}
use Rattle.sms_centre_spec.proofs.CentreAddresses.{centre_is}
use Rattle.sms_world.proofs.frames_pass_between_sides.Linking.{begin_is, data_framed, next_below}
use Rattle.sms_world.specs.frames_pass_between_sides.Between.{CarriesDown, IsOfKindDown}
use Rattle.sms_world.specs.headline.SeenFrames.{frame_tpdu_down, unit_tpdu, sent_down}
use Rattle.sms_world_model.specs.WorldStep.{Run, end, Offer, Step as WorldStep}
use Rattle.sms_world_model.specs.ScriptRun.{items}
use Rattle.sms_world_model.specs.World.{Carried as Carried_frame, Down, Frame, Allocation, Sent, World}
use Rattle.sms_world.specs.centres_refine_the_world.CentreLaws.{AllOffer}
use Rattle.sms_world.specs.centres_refine_the_world.CentreRefinement.{CentreRefines}
use Rattle.sms_world.specs.centres_refine_the_world.FramesOut.{AreWholeDown, stacked_down}
use Rattle.sms_world.specs.centres_refine_the_world.RefinesLinks.{RefinesLink, RefinesLinks}
use Rattle.sms_world.proofs.centres_refine_the_world.QueuedParts.{IsOffered, allocation_at, queued_offered}
use Rattle.sms_world.proofs.centres_refine_the_world.Staying.{link_still}

-- ---- octets

down_read : (r : ℕ) (centre unit : List ℕ) → IsCentre centre → length unit ≤ 200 → down_at (data_down r centre unit) ≡ Ok (DataUnit r centre unit)
down_read r centre unit c u = down_again (data_down r centre unit) (DataUnit r centre unit) (c, (let l : length unit < 256 = omega (arith, u) in l), refl)

telling_long : (more : Bool) (tpdu : List ℕ) → length (with_more_messages more tpdu) ≡ length tpdu
telling_long more [] = refl
telling_long more (x ∷ xs) = refl

-- ---- frames and links

pub stacked_both : (fs gs : List SentRow) (bag : List Sent) → stacked_down (fs ++ gs) bag ≡ stacked_down gs (stacked_down fs bag)
stacked_both [] gs bag = refl
stacked_both (f ∷ fs) gs bag = stacked_both fs gs (sent_down f.handset (length bag + 1) f.frame.octets f.frame.carried ∷ bag)

pub whole_both : (fs gs : List SentRow) → AreWholeDown fs → AreWholeDown gs → AreWholeDown (fs ++ gs)
whole_both [] gs a b = b
whole_both (f ∷ fs) gs a b = (a.0, whole_both fs gs a.1 b)

pub links_with : (bag : List Sent) (link : HandsetLink) (ls : List HandsetLink) → RefinesLink bag link → RefinesLinks bag ls → RefinesLinks bag (with_link link ls)
links_with bag link ls s refines x i =
    ⊎_elim (λ (e : x ≡ link). subst (λ (z : HandsetLink). RefinesLink bag z) (sym e) s) (λ (a : Among x ls). refines x a) (among_with x link ls i)

pub link_refines : (bag : List Sent) (number : List ℕ) (ls : List HandsetLink) → RefinesLinks bag ls → RefinesLink bag (link_of number ls)
link_refines bag number ls refines = at (link_at number ls) refl
  where
    at : (o : Option HandsetLink) → link_at number ls ≡ o → RefinesLink bag (or_new_link_to number o)
    at None e = record { next = (let l : 0 < 7 = omega arith in l); opened = tt; begun = tt }
    at (Some l) e = refines l (link_found number l ls e).0

-- ---- a transaction begins

abbrev pub Offers : ℕ → World → Draft → World → Type 0
Offers m b new w = (steps : List WorldStep) × (AllOffer steps × Run w (items m false steps) × CentreRefines b new (end w (items m false steps)))

module _ (m : ℕ) (b : World) (d : Draft) (w : World) (sound : SoundStore d.store) (s : CentreRefines b d w) (link : HandsetLink) (refines : RefinesLink w.bag link) where
  module _ (l : QueuedPart) (more : Bool) (read : List ℕ) (idle : is_busy link.near_end.links ≡ false) (i : IsOffered link.handset l.reference w (holder_of l) (tpdu_of l d.store)) where
    offered : Offers m b (record d { links = turn_link link (begun d.store.moment l.reference (holder_of l) (unit_of l more d.store) link.near_end) (record d.links { read = read }) }) w
    offered =
        let tpdu : List ℕ = with_more_messages more (tpdu_of l d.store) in
        let centre : List ℕ = relay_address d.store.setup.centre in
        let unit : List ℕ = data_down l.reference centre tpdu in
        let c : Carried = of_kind Data l.reference (holder_of l) in
        let is : IsCentre centre = centre_is d.store.setup.centre sound.setup.centre in
        let long : length tpdu ≤ 200 = subst (λ (z : ℕ). z ≤ 200) (sym (telling_long more (tpdu_of l d.store))) i.fits in
        let told : down_at unit ≡ Ok (DataUnit l.reference centre tpdu) = down_read l.reference centre tpdu is long in
        let size = down_long l.reference centre tpdu in
        let short : length centre ≤ 11 = is.1 in
        let n = link.near_end.links.next_identifier in
        let octets : List ℕ = spelled (CpData (in_transaction FromOriginator n) unit) in
        let framed = data_framed FromOriginator n unit refines.next (omega (arith, size)) (omega (arith, size, short, long)) in
        let carries : CarriesDown octets c = record {
          transaction = in_transaction FromOriginator n;
          unit = unit;
          frame = framed;
          flag = refl;
          unit_is = subst (λ (z : Result Rp RelayFault). IsOfKindDown Data l.reference z) (sym told) refl;
        } in
        let u : Frame = record { number = length w.bag + 1; handset = link.handset; line = Down; kind = Data; reference = l.reference; tpdu = tpdu; tag = holder_of l } in
        let x : Sent = Carried_frame u in
        let q : sent_down link.handset (length w.bag + 1) octets (Some c) ≡ x =
        ap (λ (z : List ℕ). Carried_frame (record u { tpdu = z }))
        (ap (λ (z : Result Cp CpFault). frame_tpdu_down z) (cp_again octets (CpData (in_transaction FromOriginator n) unit) framed) ∙ ap (λ (z : Result Rp RelayFault). unit_tpdu z) told) in
        let f : SentRow = record { handset = link.handset; frame = record { octets = octets; carried = Some c; is_copy = false } } in
        let g : Allocation = allocation_at link.handset l.reference (holder_of l) (tpdu_of l d.store) i.moment in
        let v : World = record w { bag = x ∷ w.bag } in
        let after_turn : Step → Draft = λ (z : Step). record d {
          links = record d.links {
            all = with_link (link_turned (turn_started c z link.near_end) link) d.links.all;
            frames = d.links.frames ++ to_handset link.handset (carrying (Some c) z.out.frames);
            read = read;
          };
        } in
        let e : started d.store.moment octets link.near_end.links ≡ begin_step d.store.moment unit link.near_end.links = sym (begin_is d.store.moment unit link.near_end.links idle) in
        let grown : (y : Sent) → Among y w.bag → Among y v.bag = λ y a. inr a in
        let old : RefinesLink v.bag link = link_still w.bag v.bag grown link refines in
        let z : CentreRefines b (after_turn (started d.store.moment octets link.near_end.links)) v = record {
          frames = ap (λ (y : Sent). y ∷ w.bag) (sym q) ∙ ap (λ (bag : List Sent). sent_down link.handset (length bag + 1) octets (Some c) ∷ bag) s.frames ∙ sym (stacked_both d.links.frames (f ∷ []) b.bag);
          whole = whole_both d.links.frames (f ∷ []) s.whole (carries, tt);
          links = links_with v.bag (link_turned (turn_started c (started d.store.moment octets link.near_end.links) link.near_end) link) d.links.all
              (record { next = next_below n; opened = old.opened; begun = (c, (refl, (carries, refl, (length w.bag + 1, inl q)), i.numbered)) })
              (λ y a. link_still w.bag v.bag grown y (s.links y a));
          rows = record { table = s.rows.table; reports = s.rows.reports; holders = s.rows.holders; seconds = s.rows.seconds };
        } in (
          Offer g tpdu ∷ [],
          (
            ((g, tpdu, refl), tt),
            (((i.given, i.unanswered), more_messages_same more (tpdu_of l d.store)), tt),
            subst (λ (t : Turn). CentreRefines b (record d { links = turn_link link t (record d.links { read = read }) }) v)
                (sym (cond-false (is_busy link.near_end.links) (still link.near_end) (turn_started c (begin_step d.store.moment unit link.near_end.links) link.near_end) idle))
                (subst (λ (t : Step). CentreRefines b (after_turn t) v) e z),
          ),
        )

  queued_law : (l : QueuedPart) (more : Bool) → is_busy link.near_end.links ≡ false → IsOffered link.handset l.reference w (holder_of l) (tpdu_of l d.store)
      → Offers m b (record d { links = turn_link link (begun d.store.moment l.reference (holder_of l) (unit_of l more d.store) link.near_end) (read_of l d.store d.links) }) w
  queued_law l more idle i =
      cond_both (is_made l d.store) d.links (read_for (queued_key l) d.links)
      (λ (a : Links). Offers m b (record d { links = turn_link link (begun d.store.moment l.reference (holder_of l) (unit_of l more d.store) link.near_end) a }) w)
      (λ t. offered l more d.links.read idle i) (λ t. offered l more (d.links.read ++ queued_key l ∷ []) idle i)

  next_law : is_busy link.near_end.links ≡ false → (o : Option QueuedPart) → next d.store.moment (waiting_in link.handset d.store) ≡ o
      → Offers m b (record d { links = offer_queued link (waiting_in link.handset d.store) o d.store d.links }) w
  next_law idle None e = ([], (tt, tt, s))
  next_law idle (Some l) e =
      queued_law l (waits_beside d.store.moment l (waiting_in link.handset d.store)) idle
      (queued_offered link.handset l d.store w sound s.rows (next_waits d.store.moment l (waiting_in link.handset d.store) e))

  is_idle : is_ready link ≡ true → is_busy link.near_end.links ≡ false
  is_idle t = not_false (is_busy link.near_end.links) (and_parts (not link.is_full) (not (is_busy link.near_end.links)) (and_parts link.is_up (not link.is_full && not (is_busy link.near_end.links)) t).1).1
    where
      not_false : (x : Bool) → not x ≡ true → x ≡ false
      not_false true e = absurd cc
      not_false false e = refl

  link_law : Offers m b (record d { links = offer_on link d.store d.links }) w
  link_law =
      cond_both (is_ready link) (offer_among link (waiting_in link.handset d.store) d.store d.links) d.links (λ (a : Links). Offers m b (record d { links = a }) w)
      (λ t. next_law (is_idle t) (next d.store.moment (waiting_in link.handset d.store)) refl) (λ t. ([], (tt, tt, s)))

-- ---- one after another

offers_both : (xs ys : List WorldStep) → AllOffer xs → AllOffer ys → AllOffer (xs ++ ys)
offers_both [] ys a b = b
offers_both (x ∷ xs) ys a b = (a.0, offers_both xs ys a.1 b)

offers_then : (m : ℕ) (b : World) (e f : Draft) (w : World) → Offers m b e w → ((v : World) → CentreRefines b e v → Offers m b f v) → Offers m b f w
offers_then m b e f w (xs, (kx, rx, sx)) further =
    let y = further (end w (items m false xs)) sx in
    (xs ++ y.0, (offers_both xs y.0 kx y.1.0, run_both m w xs y.0 rx y.1.1, subst (λ (v : World). CentreRefines b f v) (sym (end_both m w xs y.0)) y.1.2))

all_law : (m : ℕ) (b : World) (hs : List HandsetRow) (d : Draft) (w : World) → SoundStore d.store → CentreRefines b d w → Offers m b (record d { links = offer_all hs d.store d.links }) w
all_law m b [] d w sound s = ([], (tt, tt, s))
all_law m b (h ∷ hs) d w sound s =
    let e : Draft = record d { links = offer_to h.number d.store d.links } in
    offers_then m b e (record d { links = offer_all (h ∷ hs) d.store d.links }) w
    (link_law m b d w sound s (link_of h.number d.links.all) (link_refines w.bag h.number d.links.all s.links))
    (λ v k. all_law m b hs e v sound k)

-- what follows every event
pub follow_law : (m : ℕ) (b : World) (d : Draft) (w : World) → SoundStore d.store → CentreRefines b d w → Offers m b (follow d) w
follow_law m b d w sound s = all_law m b (handsets_in d.store) (send d) w sound (record { frames = s.frames; whole = s.whole; links = s.links; rows = s.rows })
