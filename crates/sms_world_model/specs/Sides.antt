-- Whose steps are which, and what the steps of one side leave as it was for the others.
use Rattle.std.specs.Prelude.{◌≡◌, ℕ, List, [], ◌∷◌}
use Rattle.sms_base.specs.Among.{Among}
use Rattle.sms_world_model.specs.World.{Accepted, Allocation, IsLast, Joined, OutEntry, World}
use Rattle.sms_world_model.specs.WorldStep.{Acknowledged, Again, Close, Control, Delete, Expire, Fail, Join, Lapse, Memory_free, Offer, Offer_memory, Offer_up}
use Rattle.sms_world_model.specs.WorldStep.{Receipt, Receive, Refuse, Refused, Reject, Remove, Repeat_memory, Settle, Status, Step, Submit, Take, Take_again}
use Rattle.sms_world_model.specs.WorldStep.{Write}
use Rattle.sms_world_model.specs.Place.{Key}
use Rattle.sms_world_model.specs.Groups.{groups_of}

-- a step of that handset
abbrev pub IsOfHandset : List ℕ → Step → Type 0
IsOfHandset h (Take u) = u.handset ≡ h
IsOfHandset h (Take_again u) = u.handset ≡ h
IsOfHandset h (Refuse u) = u.handset ≡ h
IsOfHandset h (Join j) = j.handset ≡ h
IsOfHandset h (Write e r) = e.handset ≡ h
IsOfHandset h (Remove e) = e.handset ≡ h
IsOfHandset h (Offer_up g e tpdu) = e.handset ≡ h
IsOfHandset h (Offer_memory handset n r) = handset ≡ h
IsOfHandset h (Repeat_memory g n) = g.handset ≡ h
IsOfHandset h (Lapse e st) = e.handset ≡ h
IsOfHandset h (Acknowledged u g e) = e.handset ≡ h
IsOfHandset h (Refused u g e st) = e.handset ≡ h
IsOfHandset h (Again u) = u.handset ≡ h
IsOfHandset h (Control handset) = handset ≡ h
IsOfHandset h _ = ⊥

-- a step of the centre
abbrev pub IsOfCentre : Step → Type 0
IsOfCentre (Submit s tickets) = Unit {0}
IsOfCentre (Offer g tpdu) = Unit {0}
IsOfCentre (Settle u g id n) = Unit {0}
IsOfCentre (Expire id) = Unit {0}
IsOfCentre (Delete id) = Unit {0}
IsOfCentre (Fail u g id n) = Unit {0}
IsOfCentre (Receipt s f) = Unit {0}
IsOfCentre (Status s f t) = Unit {0}
IsOfCentre (Close id) = Unit {0}
IsOfCentre (Receive u s tickets) = Unit {0}
IsOfCentre (Reject u) = Unit {0}
IsOfCentre (Memory_free u) = Unit {0}
IsOfCentre (Again u) = Unit {0}
IsOfCentre (Control handset) = Unit {0}
IsOfCentre _ = ⊥

abbrev pub AllOfHandset : List ℕ → List Step → Type 0
AllOfHandset h [] = Unit {0}
AllOfHandset h (s ∷ ss) = IsOfHandset h s × AllOfHandset h ss

abbrev pub AllOfCentre : List Step → Type 0
AllOfCentre [] = Unit {0}
AllOfCentre (s ∷ ss) = IsOfCentre s × AllOfCentre ss

-- what the handset has in the one world it has in the other
pub record LeavesHandset (h : List ℕ) (w v : World) : Type 0 where
  pub last : (p : Accepted) → p.handset ≡ h → IsLast p w.accepted → IsLast p v.accepted
  pub last_back : (p : Accepted) → p.handset ≡ h → IsLast p v.accepted → IsLast p w.accepted
  pub groups : (k : Key) → groups_of h k v.accepted ≡ groups_of h k w.accepted
  pub joined : (j : Joined) → j.handset ≡ h → Among j w.joined → Among j v.joined
  pub joined_back : (j : Joined) → j.handset ≡ h → Among j v.joined → Among j w.joined
  pub entry : (e : OutEntry) → e.handset ≡ h → Among e w.outbox → Among e v.outbox
  pub entry_back : (e : OutEntry) → e.handset ≡ h → Among e v.outbox → Among e w.outbox
  pub given : (g : Allocation) → g.handset ≡ h → Among g w.up → Among g v.up
  pub given_back : (g : Allocation) → g.handset ≡ h → Among g v.up → Among g w.up

-- what the centre has in the one world it has in the other
pub record LeavesCentre (w v : World) : Type 0 where
  pub table : v.table ≡ w.table
  pub receipts : v.receipts ≡ w.receipts
  pub reports : v.reports ≡ w.reports
  pub down : v.down ≡ w.down
