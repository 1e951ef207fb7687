-- The turns of a run, each of which begins with a tick.
use Rattle.std.specs.Prelude.{◌≡◌, ◌⊎◌, ◌≤◌, ◌<◌, ◌+◌, ◌-◌, ◌^◌, ℕ, List, [], ◌∷◌, ◌++◌, length, map, Option, None, Ok}
use Rattle.std.specs.Io.KnownBytes.{Consumes}
use Rattle.sms_link.specs.framing.Framing.{front_of, joined}
use Rattle.sms_handset_draft.specs.Draft.{Core}
use Rattle.sms_handset.specs.declared.event.HandsetEvent.{HandsetEvent}
use Rattle.sms_handset.specs.declared.event.HandsetEvent.TheVariants.{Tick}
use Rattle.sms_handset_link.specs.Run.{Meets, received}

module _ (reads : ℕ → Type 0) where
  -- What an owner asks, one after the other. Before each of it is one tick, at a moment that the clock shows.
  abbrev pub AreTimed : List HandsetEvent → List HandsetEvent → Type 0
  AreTimed [] events = events ≡ []
  AreTimed (e ∷ asked) events =
      (now : ℕ) × reads now × (rest : List HandsetEvent) × (events ≡ Tick now ∷ e ∷ rest) × AreTimed asked rest

  -- One read of the link: one tick, at a moment that the clock shows, at most 4,096 octets, and the frames that are met then
  pub record Turn : Type 0 where
    pub now : ℕ
    pub shown : reads now
    pub octets : List ℕ
    pub few : length octets ≤ 4096
    pub frames : List (List ℕ)

  -- what a handset meets in some turns
  abbrev pub events_in : List Turn → List HandsetEvent
  events_in [] = []
  events_in (turn ∷ turns) = Tick turn.now ∷ (map received turn.frames ++ events_in turns)

  -- the octets that were read
  abbrev pub octets_in : List Turn → List ℕ
  octets_in [] = []
  octets_in (turn ∷ turns) = turn.octets ++ octets_in turns

  -- so many frames were met
  abbrev pub frames_in : List Turn → ℕ
  frames_in [] = 0
  frames_in (turn ∷ turns) = length turn.frames + frames_in turns

  -- A turn with others behind it leaves no whole frame.
  abbrev pub LeavesNone : List ℕ → List Turn → Type 0
  LeavesNone next [] = Unit {0}
  LeavesNone next (turn ∷ turns) = front_of next ≡ Ok None

  -- In each turn what was left before, and then what was read, is the frames of the turn, and then what is left behind it.
  abbrev pub Cut : List ℕ → List Turn → List ℕ → Type 0
  Cut left [] rest = rest ≡ left
  Cut left (turn ∷ turns) rest =
      (next : List ℕ) × (left ++ turn.octets ≡ joined turn.frames ++ next) × LeavesNone next turns × Cut next turns rest

  -- The last read brought nothing, as one of a link that has closed.
  abbrev pub EndsQuiet : List Turn → Type 0
  EndsQuiet [] = ⊥
  EndsQuiet (turn ∷ []) = turn.octets ≡ []
  EndsQuiet (turn ∷ next ∷ turns) = EndsQuiet (next ∷ turns)

  -- What some turns of the link did, and what is left of what was read. Each octet that was read is in one turn, in order. They end
  -- once so many frames were met, or behind a read that brought nothing; no run has more than 2 ^ 64 - 1.
  pub record Attended (most : ℕ) (had has : Option (List ℕ)) (left : List ℕ) (before after : Core) (held holds : Option (List ℕ)) : Type 0 where
    pub turns : List Turn
    pub read_so : Consumes had has (octets_in turns)
    pub cut_so : Cut [] turns left
    pub met : Meets (events_in turns) before after held holds
    pub all_met : (frames_in turns ≡ most) ⊎ (front_of left ≡ Ok None)
    pub ends_so : (frames_in turns ≡ most) ⊎ (EndsQuiet turns ⊎ (2 ^ 64 - 1 ≤ length turns))

-- How many frames may follow a read of so many at most. Behind one that brought nothing it may be none. No whole frame is left
-- unless as many were met as may be.
abbrev pub LeavesFor : ℕ → ℕ → List ℕ → List ℕ → ℕ → Type 0
LeavesFor most met octets next left =
    ((met + left ≡ most) × (0 < left → front_of next ≡ Ok None))
    ⊎ ((left ≡ 0) × (octets ≡ []) × ((met ≡ most) ⊎ (front_of next ≡ Ok None)))
