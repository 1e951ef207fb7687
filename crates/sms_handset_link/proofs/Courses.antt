-- Parts of a run, one after the other.
use Rattle.std.proofs.Common.{◌≡◌, ◌⊎◌, inl, inr, ℕ, ◌+◌, ◌-◌, ◌^◌, ◌<◌, ◌≤◌, arith, length, length-append, List, [], ◌∷◌, ◌++◌, map, Option, Some, None, Result, Ok, Err, refl, sym, ap, subst, ◌∙◌, append_assoc}
use Rattle.std.proofs.lemmas.Bool.Decides.{leb_tells}
use Rattle.std.proofs.lemmas.List.{append-nil}
use Rattle.std.specs.Prelude.{OnOk}
use Rattle.std.specs.Io.KnownBytes.{Appends, Consumes}
use Rattle.sms_base.proofs.Lists.{no_items}
use Rattle.sms_link.specs.framing.Framing.{framed, front_of, joined}
use Rattle.sms_handset_draft.specs.Draft.{Core}
use Rattle.sms_handset.specs.declared.event.HandsetEvent.{HandsetEvent}
use Rattle.sms_handset.specs.declared.event.HandsetEvent.TheVariants.{Tick}
use Rattle.sms_handset_link.specs.Run.{Follows, Meets, Sends, received}
use Rattle.sms_handset_link.specs.Turns.{AreTimed, Attended, Cut, EndsQuiet, LeavesFor, LeavesNone, Turn, events_in, frames_in, octets_in}
use Rattle.sms_link.proofs.framing.Streams.{joined_append}

-- ---- known bytes

pub appends_join : (a b c : Option (List ℕ)) (one other : List ℕ) → Appends a b one → Appends b c other → Appends a c (one ++ other)
appends_join None b c one other p q = tt
appends_join (Some a) None c one other p q = absurd p
appends_join (Some a) (Some b) None one other p q = absurd q
appends_join (Some a) (Some b) (Some c) one other p q = q ∙ (ap (λ (l : List ℕ). l ++ other) p ∙ append_assoc a one other)

pub appends_none : (a : Option (List ℕ)) → Appends a a []
appends_none None = tt
appends_none (Some a) = sym (append-nil a)

pub consumes_join : (a b c : Option (List ℕ)) (one other : List ℕ) → Consumes a b one → Consumes b c other → Consumes a c (one ++ other)
consumes_join None b c one other p q = tt
consumes_join (Some a) None c one other p q = absurd p
consumes_join (Some a) (Some b) None one other p q = absurd q
consumes_join (Some a) (Some b) (Some c) one other p q = p ∙ (ap (λ (l : List ℕ). one ++ l) q ∙ sym (append_assoc one other c))

pub consumes_none : (a : Option (List ℕ)) → Consumes a a []
consumes_none None = tt
consumes_none (Some a) = refl

-- ---- events

goes_join : (one other : List HandsetEvent) (a b c : Core) (o p : List ℕ) → Follows one a b o → Follows other b c p → Follows (one ++ other) a c (o ++ p)
goes_join [] other a b c o p g h = subst (λ (x : Core). Follows other x c (o ++ p)) g.0 (subst (λ (l : List ℕ). Follows other b c (l ++ p)) (sym g.1) h)
goes_join (e ∷ one) other a b c o p g h =
    (g.0, g.1, g.2 ++ p, (g.3.0, goes_join one other g.0 b c g.2 p g.3.1 h, ap (λ (l : List ℕ). l ++ p) g.3.2 ∙ append_assoc g.1 g.2 p))

-- ---- parts of a run

pub meets_none : (a : Core) (h : Option (List ℕ)) → Meets [] a a h h
meets_none a h = ([], ((refl, refl), appends_none h))

pub meets_join : (one other : List HandsetEvent) (a b c : Core) (f g h : Option (List ℕ)) → Meets one a b f g → Meets other b c g h → Meets (one ++ other) a c f h
meets_join one other a b c f g h p q =
    (p.0 ++ q.0, (goes_join one other a b c p.0 q.0 p.1.0 q.1.0, appends_join f g h p.0 q.0 p.1.1 q.1.1))

pub meets_one : (e : HandsetEvent) (a b : Core) (f g : Option (List ℕ)) (out : List ℕ) → Sends e a b out → Appends f g out → Meets (e ∷ []) a b f g
meets_one e a b f g out s p = (out, ((b, out, [], (s, (refl, refl), sym (append-nil out))), p))

map_arrived : (one other : List (List ℕ)) → map received (one ++ other) ≡ map received one ++ map received other
map_arrived [] other = refl
map_arrived (x ∷ one) other = ap (λ (l : List HandsetEvent). received x ∷ l) (map_arrived one other)

-- frames that were met, and more of them
pub frames_join : (one other : List (List ℕ)) (a b c : Core) (f g h : Option (List ℕ)) → Meets (map received one) a b f g → Meets (map received other) b c g h → Meets (map received (one ++ other)) a c f h
frames_join one other a b c f g h p q = subst (λ (l : List HandsetEvent). Meets l a c f h) (sym (map_arrived one other)) (meets_join (map received one) (map received other) a b c f g h p q)

-- octets whose frames were cut, and more of them
pub cut_join : (start middle last : List ℕ) (one other : List (List ℕ)) → start ≡ joined one ++ middle → middle ≡ joined other ++ last → start ≡ joined (one ++ other) ++ last
cut_join start middle last one other p q =
    p ∙ (ap (λ (l : List ℕ). joined one ++ l) q
    ∙ (sym (append_assoc (joined one) (joined other) last) ∙ ap (λ (l : List ℕ). l ++ last) (sym (joined_append one other))))

pub cut_one : (middle frame last : List ℕ) → middle ≡ framed frame ++ last → middle ≡ joined (frame ∷ []) ++ last
cut_one middle frame last e = e ∙ ap (λ (l : List ℕ). l ++ last) (sym (append-nil (framed frame)))

-- ---- turns

module _ (reads : ℕ → Type 0) where
  -- one more that was asked
  pub timed_more : (asked timed : List HandsetEvent) (now : ℕ) (e : HandsetEvent) → AreTimed reads asked timed → reads now
      → AreTimed reads (asked ++ e ∷ []) (timed ++ Tick now ∷ e ∷ [])
  timed_more [] timed now e h shown = (now, shown, [], ap (λ (l : List HandsetEvent). l ++ Tick now ∷ e ∷ []) h, refl)
  timed_more (first ∷ asked) timed now e h shown =
      (h.0, h.1, h.2 ++ Tick now ∷ e ∷ [], ap (λ (l : List HandsetEvent). l ++ Tick now ∷ e ∷ []) h.3, timed_more asked h.2 now e h.4 shown)

  -- one more turn
  pub events_more : (turns : List (Turn reads)) (turn : Turn reads)
      → events_in reads (turns ++ turn ∷ []) ≡ events_in reads turns ++ Tick turn.now ∷ map received turn.frames
  events_more [] turn = ap (λ (l : List HandsetEvent). Tick turn.now ∷ l) (append-nil (map received turn.frames))
  events_more (first ∷ turns) turn =
      ap (λ (l : List HandsetEvent). Tick first.now ∷ (map received first.frames ++ l)) (events_more turns turn)
      ∙ ap (λ (l : List HandsetEvent). Tick first.now ∷ l) (sym (append_assoc (map received first.frames) (events_in reads turns) (Tick turn.now ∷ map received turn.frames)))

  pub octets_more : (turns : List (Turn reads)) (turn : Turn reads) → octets_in reads (turns ++ turn ∷ []) ≡ octets_in reads turns ++ turn.octets
  octets_more [] turn = append-nil turn.octets
  octets_more (first ∷ turns) turn =
      ap (λ (l : List ℕ). first.octets ++ l) (octets_more turns turn) ∙ sym (append_assoc first.octets (octets_in reads turns) turn.octets)

  none_left : (next middle : List ℕ) (turns : List (Turn reads)) (turn : Turn reads) → Cut reads next turns middle → LeavesNone reads next turns
      → front_of middle ≡ Ok None → LeavesNone reads next (turns ++ turn ∷ [])
  none_left next middle [] turn h leaves none = ap front_of (sym h) ∙ none
  none_left next middle (second ∷ turns) turn h leaves none = leaves

  pub cut_more : (left : List ℕ) (turns : List (Turn reads)) (middle : List ℕ) (turn : Turn reads) (rest : List ℕ) → Cut reads left turns middle
      → front_of middle ≡ Ok None → middle ++ turn.octets ≡ joined turn.frames ++ rest → Cut reads left (turns ++ turn ∷ []) rest
  cut_more left [] middle turn rest h none e = (rest, ap (λ (l : List ℕ). l ++ turn.octets) (sym h) ∙ e, tt, refl)
  cut_more left (first ∷ turns) middle turn rest h none e =
      (h.0, h.1, none_left h.0 middle turns turn h.3 h.2 none, cut_more h.0 turns middle turn rest h.3 none e)

  frames_more : (turns : List (Turn reads)) (turn : Turn reads) → frames_in reads (turns ++ turn ∷ []) ≡ frames_in reads turns + length turn.frames
  frames_more [] turn = omega arith
  frames_more (first ∷ turns) turn =
      let rest : frames_in reads (turns ++ turn ∷ []) ≡ frames_in reads turns + length turn.frames = frames_more turns turn in
      omega (arith, rest)

  quiet_more : (turns : List (Turn reads)) (turn : Turn reads) → turn.octets ≡ [] → EndsQuiet reads (turns ++ turn ∷ [])
  quiet_more [] turn e = e
  quiet_more (first ∷ []) turn e = e
  quiet_more (first ∷ second ∷ turns) turn e = quiet_more (second ∷ turns) turn e

  -- So many frames are wanted, and so many may still follow.
  pub record Attending (most left count : ℕ) (had has : Option (List ℕ)) (buffer : List ℕ) (before after : Core) (held holds : Option (List ℕ)) : Type 0 where
    pub turns : List (Turn reads)
    pub read_so : Consumes had has (octets_in reads turns)
    pub cut_so : Cut reads [] turns buffer
    pub met : Meets (events_in reads turns) before after held holds
    pub many : length turns ≡ count
    pub goes_so : ((frames_in reads turns + left ≡ most) × (0 < left → front_of buffer ≡ Ok None))
        ⊎ ((left ≡ 0) × EndsQuiet reads turns × ((frames_in reads turns ≡ most) ⊎ (front_of buffer ≡ Ok None)))

  pub attending_none : (most : ℕ) (had : Option (List ℕ)) (buffer : List ℕ) (a : Core) (held : Option (List ℕ)) → buffer ≡ []
      → Attending most most 0 had had buffer a a held held
  attending_none most had buffer a held e = record {
    turns = [];
    read_so = consumes_none had;
    cut_so = e;
    met = meets_none a held;
    many = refl;
    goes_so = let none : frames_in reads [] ≡ 0 = refl in inl (omega (arith, none), λ some. ap front_of e);
  }

  -- a read that ends the run, or does not
  goes_more : (turns : List (Turn reads)) (turn : Turn reads) (most left less : ℕ) (rest : List ℕ) → frames_in reads turns + left ≡ most
      → LeavesFor left (length turn.frames) turn.octets rest less
      → ((frames_in reads (turns ++ turn ∷ []) + less ≡ most) × (0 < less → front_of rest ≡ Ok None))
      ⊎ ((less ≡ 0) × EndsQuiet reads (turns ++ turn ∷ []) × ((frames_in reads (turns ++ turn ∷ []) ≡ most) ⊎ (front_of rest ≡ Ok None)))
  goes_more turns turn most left less rest so (inl h) =
      let more = frames_more turns turn in inl (omega (arith, more, so, h.0), h.1)
  goes_more turns turn most left less rest so (inr (none, quiet, inl all)) =
      let more = frames_more turns turn in inr (none, quiet_more turns turn quiet, inl (omega (arith, more, so, all)))
  goes_more turns turn most left less rest so (inr (none, quiet, inr front)) = inr (none, quiet_more turns turn quiet, inr front)

  turns_more : (turns : List (Turn reads)) (turn : Turn reads) (count : ℕ) → length turns ≡ count → length (turns ++ turn ∷ []) ≡ count + 1
  turns_more turns turn count e = length-append turns (turn ∷ []) ∙ ap (λ (n : ℕ). n + 1) e

  so_far : (most left count : ℕ) (had has : Option (List ℕ)) (buffer : List ℕ) (a b : Core) (held holds : Option (List ℕ))
      → (h : Attending most left count had has buffer a b held holds) → 0 < left → (frames_in reads h.turns + left ≡ most) × (front_of buffer ≡ Ok None)
  so_far most left count had has buffer a b held holds h some = elim h.goes_so [
    | inl goes ↦ (goes.0, goes.1 some)
    | inr ends ↦ absurd (omega (arith, some, ends.0))
  ]

  pub attending_more : (most left less count : ℕ) (had have has : Option (List ℕ)) (buffer rest : List ℕ) (a b c : Core) (held hold holds : Option (List ℕ)) (turn : Turn reads)
      → Attending most left count had have buffer a b held hold → 0 < left → Consumes have has turn.octets → buffer ++ turn.octets ≡ joined turn.frames ++ rest
      → Meets (Tick turn.now ∷ map received turn.frames) b c hold holds → LeavesFor left (length turn.frames) turn.octets rest less
      → Attending most less (count + 1) had has rest a c held holds
  attending_more most left less count had have has buffer rest a b c held hold holds turn h some read cut met leaves =
      let so = so_far most left count had have buffer a b held hold h some in record {
        turns = h.turns ++ turn ∷ [];
        read_so = subst (λ (l : List ℕ). Consumes had has l) (sym (octets_more h.turns turn)) (consumes_join had have has (octets_in reads h.turns) turn.octets h.read_so read);
        cut_so = cut_more [] h.turns buffer turn rest h.cut_so so.1 cut;
        met = subst (λ (l : List HandsetEvent). Meets l a c held holds) (sym (events_more h.turns turn))
            (meets_join (events_in reads h.turns) (Tick turn.now ∷ map received turn.frames) a b c held hold holds h.met met);
        many = turns_more h.turns turn count h.many;
        goes_so = goes_more h.turns turn most left less rest so.0 leaves;
      }

  -- no frame may follow
  pub attended_all : (most left count : ℕ) (had has : Option (List ℕ)) (buffer : List ℕ) (a b : Core) (held holds : Option (List ℕ))
      → Attending most left count had has buffer a b held holds → left ≡ 0 → Attended reads most had has buffer a b held holds
  attended_all most left count had has buffer a b held holds h none = record {
    turns = h.turns;
    read_so = h.read_so;
    cut_so = h.cut_so;
    met = h.met;
    all_met = elim h.goes_so [
      | inl goes ↦ inl (omega (arith, goes.0, none))
      | inr ends ↦ ends.2
    ];
    ends_so = elim h.goes_so [
      | inl goes ↦ inl (omega (arith, goes.0, none))
      | inr ends ↦ inr (inl ends.1)
    ];
  }

  -- no turn may follow
  pub attended_long : (most left count : ℕ) (had has : Option (List ℕ)) (buffer : List ℕ) (a b : Core) (held holds : Option (List ℕ))
      → Attending most left count had has buffer a b held holds → 2 ^ 64 - 1 ≤ count → Attended reads most had has buffer a b held holds
  attended_long most left count had has buffer a b held holds h long = record {
    turns = h.turns;
    read_so = h.read_so;
    cut_so = h.cut_so;
    met = h.met;
    all_met = elim h.goes_so [
      | inl goes ↦ elim (leb_tells 1 left) [
        | inl some ↦ inr (goes.1 some.1)
        | inr none ↦ inl (omega (arith, goes.0, none.1))
      ]
      | inr ends ↦ ends.2
    ];
    ends_so = inr (inr (subst (λ (n : ℕ). 2 ^ 64 - 1 ≤ n) (sym h.many) long));
  }

-- ---- a read that brought nothing

pub nothing_read : (before after octets : List ℕ) → after ≡ before ++ octets → after ≡ before → octets ≡ []
nothing_read before after octets p q =
    let all : length after ≡ length before + length octets = ap (λ (l : List ℕ). length l) p ∙ length-append before octets in
    let same : length after ≡ length before = ap (λ (l : List ℕ). length l) q in
    no_items octets (omega (arith, all, same))

pub closed_leaves : (most met left : ℕ) (octets next : List ℕ) → octets ≡ [] → met + left ≡ most → (0 < left → front_of next ≡ Ok None) → LeavesFor most met octets next 0
closed_leaves most met left octets next none all front = elim (leb_tells 1 left) [
  | inl some ↦ inr (refl, none, inr (front some.1))
  | inr few ↦ inr (refl, none, inl (omega (arith, all, few.1)))
]

pub on_ok : {P Q E : Type 0} (r : Result (Unit {0}) E) → OnOk r P → (P → Q) → OnOk r Q
on_ok (Ok done) p f = f p
on_ok (Err e) p f = tt
