-- To whom references were given last, and what was accepted, with one more of each.
use Rattle.std.proofs.Common.{◌≡◌, ℕ, List, [], ◌∷◌, ◌++◌, Bool, true, false, cond, refl, sym, ◌∙◌, ap, Option, Some, None, is_some}
use Rattle.std.specs.Prelude.{◌==◌, ◌&&◌, ◌||◌, if◌then◌else◌}
use Rattle.std.specs.Bool.{beq}
use Rattle.std.specs.Map.{lookup}
use Rattle.std.specs.Str.{bytes_eq}
use Rattle.sms_base.specs.declared.holder.Holder.{Holder}
use Rattle.sms_script.specs.declared.report.rows.AcceptedRow.{AcceptedRow}
use Rattle.sms_script.specs.declared.report.rows.Direction.{Direction}
use Rattle.sms_script.specs.declared.report.rows.Direction.TheVariants.{Up, Down}
use Rattle.sms_script.specs.declared.report.rows.GivenRow.{GivenRow}
use Rattle.sms_play.specs.Premises.{has_pair, is_of_reference, is_same_pair, is_same_side, last_holder}
use Rattle.sms_tpdu.specs.MoreMessages.{compared}
use Rattle.sms_world_model.specs.World.{Accepted}
use Rattle.sms_world_model.specs.RoundKeys.{is_same_round}
use Rattle.sms_play.specs.judging.Watching.{HasAccepted, HasHolders, allocation_at, is_same_allocation, is_same_pair_in, is_up, or_no_members, pair_accepted, pair_in, round_at}
use Rattle.sms_world_model.specs.declared.round_key.RoundKey.{RoundKey}
use Rattle.sms_play.specs.declared.judging.watch.Allocation.{Allocation}
use Rattle.sms_play.specs.declared.judging.watch.Member.{Member}
use Rattle.sms_play.specs.declared.judging.watch.Pair.{Pair}
use Rattle.sms_play.proofs.judging.Members.{turned}

same_side : (a b : Direction) → beq (is_up a) (is_up b) ≡ is_same_side a b
same_side Up Up = refl
same_side Up Down = refl
same_side Down Up = refl
same_side Down Down = refl

of_row : (g : GivenRow) (handset : List ℕ) (side : Direction) (reference : ℕ)
    → is_same_allocation (allocation_at g.handset g.direction g.reference) (allocation_at handset side reference) ≡ is_of_reference handset side reference g
of_row g handset side reference = ap (λ (b : Bool). bytes_eq g.handset handset && (b && (g.reference == reference))) (same_side g.direction side)

last_over : (last : Option Holder) (handset : List ℕ) (side : Direction) (reference : ℕ) (given : List GivenRow) (g : GivenRow)
    → last_holder last handset side reference (given ++ g ∷ []) ≡ (if is_of_reference handset side reference g then Some g.holder else last_holder last handset side reference given)
last_over last handset side reference [] g = refl
last_over last handset side reference (x ∷ given) g =
    last_over (if is_of_reference handset side reference x then Some x.holder else last) handset side reference given g

pub holders_on : (given : List GivenRow) (g : GivenRow) (up : Bool) (old new : List (Allocation × Holder)) → up ≡ is_up g.direction → HasHolders given old
    → ((q : Allocation) → lookup (is_same_allocation q) new ≡ cond (is_same_allocation (record { handset = record { digits = g.handset }; is_up = up; reference = g.reference }) q) (Some g.holder) (lookup (is_same_allocation q) old))
    → HasHolders (given ++ g ∷ []) new
holders_on given g up old new is was put handset side reference =
    let here : is_same_allocation (record { handset = record { digits = g.handset }; is_up = up; reference = g.reference }) (allocation_at handset side reference) ≡ is_of_reference handset side reference g =
    ap (λ (b : Bool). is_same_allocation (record { handset = record { digits = g.handset }; is_up = b; reference = g.reference }) (allocation_at handset side reference)) is ∙ of_row g handset side reference in
    let last = was handset side reference in
    put (allocation_at handset side reference) ∙ (λ j. cond (here j) (Some g.holder) (last j)) ∙ sym (last_over None handset side reference given g)

found_on : (b c : Bool) (o : Option (Unit {0})) → is_some o ≡ c → is_some (cond b (Some tt) o) ≡ (b || c)
found_on true c o e = refl
found_on false c o e = e

pub accepted_on : (accepted : List Accepted) (p : Accepted) (key : Pair) (old new : List (Pair × Unit {0})) → pair_in key ≡ p → HasAccepted accepted old
    → ((q : Pair) → lookup (is_same_pair_in q) new ≡ cond (is_same_pair_in key q) (Some tt) (lookup (is_same_pair_in q) old))
    → HasAccepted (p ∷ accepted) new
accepted_on accepted p key old new same was put q =
    ap (λ (o : Option (Unit {0})). is_some o) (put q)
    ∙ found_on (is_same_pair_in key q) (has_pair (pair_in q) accepted) (lookup (is_same_pair_in q) old) (was q)
    ∙ ap (λ (b : Bool). b || has_pair (pair_in q) accepted) (turned (pair_in key) (pair_in q) ∙ ap (λ (z : Accepted). is_same_pair (pair_in q) z) same)

-- what was accepted, of octets that are those of a row
pub pair_of_row : (a : AcceptedRow) (octets : List ℕ) (p : Accepted) → octets ≡ a.tpdu → p ≡ record { handset = a.handset; reference = a.reference; tpdu = compared octets } → p ≡ pair_accepted a
pair_of_row a octets p e is = is ∙ (λ j. record { handset = a.handset; reference = a.reference; tpdu = compared (e j) })

-- a part goes on in a round that is there
written : (b : Bool) (ms : List Member) (o : Option (List Member)) → or_no_members (cond b (Some ms) o) ≡ (if b then ms else or_no_members o)
written true ms o = refl
written false ms o = refl

pub gone_on : (key k : RoundKey) (m : Member) (round ms : List Member) (old new : List (RoundKey × List Member))
    → lookup (is_same_round k) new ≡ cond (is_same_round key k) (Some ms) (lookup (is_same_round k) old) → Some round ≡ lookup (is_same_round key) old → ms ≡ round ++ m ∷ []
    → round_at k new ≡ (if is_same_round key k then round_at key old ++ m ∷ [] else round_at k old)
gone_on key k m round ms old new updated there pushed =
    ap (λ (o : Option (List Member)). or_no_members o) updated ∙ written (is_same_round key k) ms (lookup (is_same_round k) old)
    ∙ ap (λ (z : List Member). if is_same_round key k then z else round_at k old) (pushed ∙ ap (λ (o : Option (List Member)). or_no_members o ++ m ∷ []) there)

-- a part begins the next round, which is of this part alone
pub begun : (key k : RoundKey) (m : Member) (round : List Member) (old new : List (RoundKey × List Member))
    → lookup (is_same_round k) new ≡ cond (is_same_round key k) (Some round) (lookup (is_same_round k) old) → round ≡ m ∷ []
    → round_at k new ≡ (if is_same_round key k then m ∷ [] else round_at k old)
begun key k m round old new updated alone =
    ap (λ (o : Option (List Member)). or_no_members o) updated ∙ written (is_same_round key k) round (lookup (is_same_round k) old)
    ∙ ap (λ (z : List Member). if is_same_round key k then z else round_at k old) alone
