-- Two parts that were submitted, accepted and joined, and what lacks one of these.
use Rattle.std.proofs.Common.{arith, ◌≡◌, ℕ, zero, suc, List, [], ◌∷◌, true, false, refl, sym, ◌∙◌, ap, subst, inl, inr, ⊎_elim, Option, Some, None, ◌<◌}
use Rattle.std.specs.Prelude.{◌⊎◌, ◌≤◌}
use Rattle.std.proofs.lemmas.Option.{none-some}
use Rattle.sms_base.specs.Among.{Among}
use Rattle.sms_alphabet.specs.declared.concat_key.ConcatReference.TheVariants.{EightBit}
use Rattle.sms_alphabet.specs.declared.scheme.Coding.TheVariants.{Octets}
use Rattle.sms_base.specs.HandsetNumber.{own_address}
use Rattle.sms_centre_rows.specs.declared.messages.message.MessageRow.{MessageRow}
use Rattle.sms_centre_rows.specs.declared.messages.part.PartRow.{PartRow}
use Rattle.sms_centre_rows.specs.declared.reports.report.ReportKind.TheVariants.{Receipt, Status}
use Rattle.sms_concat.specs.declared.content.Content.{Content}
use Rattle.sms_concat.specs.declared.content.Part.{Part as PartOf}
use Rattle.sms_play.specs.PlayState.{Party, PlayState}
use Rattle.sms_script.specs.declared.report.rows.JoinedRow.{JoinedRow}
use Rattle.sms_tpdu.specs.declared.deliver.Deliver.{Deliver as DeliverOf}
use Rattle.sms_tpdu.specs.declared.user_data.UserData.{UserData}
use Rattle.sms_world.proofs.Everything.{everything}
use Rattle.sms_world.specs.centres_refine_the_world.RefinesReports.{ReportSeen}
use Rattle.sms_world.specs.headline.Claims.{AreJoinedRounds, HaveNoneInCommon, IsJoinedFrom, IsJoinedRound, IsLongMessage, IsPartOf, pair_in_row, rounds_submitted}
use Rattle.sms_world.specs.headline.SeenWorld.{IsRowOf, entry_seen}
use Rattle.sms_world.specs.wrong_plays.Pieces.{EntryWithoutRowLaw, JoinedUnknownLaw, NoRoundLaw, ReportShutLaw, ReportUnknownLaw, ReportWithoutRowLaw, RightRoundLaw, TwoPartsLaw, piece_given, piece_message, piece_part, pieces, pieces_party}
use Rattle.sms_world.specs.wrong_plays.Plays.{entry, from_writer, part_two, party, status_report, writers_core}
use Rattle.sms_world.specs.wrong_plays.Shown.{receipt_there}
use Rattle.sms_world.specs.wrong_reports.Literals.{handset, joined_row, source, writer}
use Rattle.sms_world_model.specs.Groups.{joined_content, parts_to}
use Rattle.sms_world_model.specs.Place.{Key, joined_parts, with_part}
use Rattle.sms_world_model.specs.Submission.{Always, IsDeliverOf, Submission}
use Rattle.sms_world_model.specs.World.{Accepted}

-- ---- the right one

abbrev play : PlayState
play = pieces (piece_given 1 ∷ piece_given 2 ∷ [])

abbrev key : Key
key = record { source = own_address source; reference = EightBit 7; total = 2 }

abbrev content : Content
content = record { coding = Octets; dcs = 4; units = 65 ∷ 66 ∷ [] }

abbrev one : Accepted
one = pair_in_row (piece_message 1) (piece_part 1 65)

abbrev two : Accepted
two = pair_in_row (piece_message 2) (piece_part 2 66)

-- newest first
abbrev round : List Accepted
round = two ∷ one ∷ []

abbrev data_of : ℕ → ℕ → UserData
data_of id octet = record { length = 7; octets = 5 ∷ 0 ∷ 3 ∷ 7 ∷ 2 ∷ id ∷ octet ∷ [] }

abbrev submitted : ℕ → ℕ → Submission
submitted id octet = record {
  id = id;
  source = own_address source;
  handset = handset;
  protocol_identifier = 0;
  data_coding_scheme = 4;
  reply_path = false;
  user_data_header_indicator = true;
  limit = 946771200;
  wish = Always;
  by_report = false;
  parts = data_of id octet ∷ [];
}

row_of : (id octet : ℕ) → IsRowOf (piece_message id) (submitted id octet)
row_of id octet = record {
  id = refl;
  source = refl;
  handset = refl;
  protocol_identifier = refl;
  data_coding_scheme = refl;
  limit = refl;
  wish = refl;
  by_report = refl;
}

abbrev deliver : ℕ → ℕ → DeliverOf
deliver id octet = record {
  no_more_messages_to_send = true;
  loop_prevention = false;
  status_report_indication = true;
  user_data_header_indicator = true;
  reply_path = false;
  originating_address = own_address source;
  protocol_identifier = 0;
  data_coding_scheme = 4;
  service_centre_time_stamp = 946684800;
  user_data = data_of id octet;
}

deliver_one : IsDeliverOf (submitted 1 65) (data_of 1 65) 946684800 one.tpdu
unfolding everything
deliver_one = record {
  deliver = deliver 1 65;
  reads = refl;
  time_stamp = refl;
  source = refl;
  protocol_identifier = refl;
  data_coding_scheme = refl;
  reply_path = refl;
  header_indicator = refl;
  user_data = refl;
}

deliver_two : IsDeliverOf (submitted 2 66) (data_of 2 66) 946684800 two.tpdu
unfolding everything
deliver_two = record {
  deliver = deliver 2 66;
  reads = refl;
  time_stamp = refl;
  source = refl;
  protocol_identifier = refl;
  data_coding_scheme = refl;
  reply_path = refl;
  header_indicator = refl;
  user_data = refl;
}

one_of : IsPartOf play pieces_party key one
unfolding everything
one_of = record {
  accepted = inr (inl refl);
  of_key = refl;
  message = piece_message 1;
  part = piece_part 1 65;
  there = inl refl;
  part_there = inl refl;
  its = refl;
  source = refl;
  handset = refl;
  pair = refl;
  submitted = (submitted 1 65, data_of 1 65, 946684800, (row_of 1 65, refl, deliver_one));
}

two_of : IsPartOf play pieces_party key two
unfolding everything
two_of = record {
  accepted = inl refl;
  of_key = refl;
  message = piece_message 2;
  part = piece_part 2 66;
  there = inr (inl refl);
  part_there = inr (inl refl);
  its = refl;
  source = refl;
  handset = refl;
  pair = refl;
  submitted = (submitted 2 66, data_of 2 66, 946684800, (row_of 2 66, refl, deliver_two));
}

each : (x : Accepted) → Among x round → IsPartOf play pieces_party key x
each x i = ⊎_elim
    (λ (e : x ≡ two). subst (λ (z : Accepted). IsPartOf play pieces_party key z) (sym e) two_of)
    (λ (o : (x ≡ one) ⊎ ⊥). ⊎_elim
    (λ (e : x ≡ one). subst (λ (z : Accepted). IsPartOf play pieces_party key z) (sym e) one_of) (λ (n : ⊥). absurd n) o)
    i

joins : joined_content 2 round ≡ Some content
unfolding everything
joins = refl

from_parts : IsJoinedFrom play pieces_party joined_row round
from_parts = record { key = key; content = content; joins = joins; says = refl; parts = each }

-- each row of a part has number 1
number_one : (p : PartRow) → Among p play.centre.rows.parts → p.number ≡ 1
number_one p i = ⊎_elim
    (λ (e : p ≡ piece_part 1 65). ap (λ (z : PartRow). z.number) e)
    (λ (o : (p ≡ piece_part 2 66) ⊎ ⊥). ⊎_elim (λ (e : p ≡ piece_part 2 66). ap (λ (z : PartRow). z.number) e) (λ (n : ⊥). absurd n) o)
    i

zero_is_less : 0 < 2
zero_is_less = omega arith

two_of_two : 2 ≤ 2
two_of_two = omega arith

-- so none of the two messages is a long one by itself
no_long : (m : MessageRow) → IsLongMessage play m key → ⊥
no_long m long =
    let x = long.each 2 zero_is_less two_of_two in
    let q : 1 ≡ 2 = sym (number_one x.0 x.1.0) ∙ x.1.2 in omega (arith, q)

submitted_so : Among round ((rounds_submitted play pieces_party key).present ∷ (rounds_submitted play pieces_party key).finished)
unfolding everything
submitted_so = inl refl

the_round : IsJoinedRound play pieces_party joined_row round
unfolding from_parts
the_round = record { joined = from_parts; among = submitted_so; whole = λ m i h long. absurd (no_long m long) }

abbrev Joined : Party → Type 0
Joined z = (rounds : List (List Accepted)) × (AreJoinedRounds play z z.joined rounds × HaveNoneInCommon rounds)

pub right_round : RightRoundLaw
right_round q i = ⊎_elim
    (λ (e : q ≡ pieces_party). subst (λ (z : Party). Joined z) (sym e) (round ∷ [], ((the_round, tt), ((λ h x j. absurd j), tt))))
    (λ (n : ⊥). absurd n) i

-- ---- no reference was given

pub nothing_joins : (total : ℕ) (c : Content) → joined_content total [] ≡ Some c → ⊥
nothing_joins zero c e = none-some c e
nothing_joins (suc zero) c e = none-some c e
nothing_joins (suc (suc n)) c e = none-some c (sym (none n) ∙ e)
  where
    no_parts : (n : ℕ) → parts_to (suc n) [] ≡ None
    no_parts zero = refl
    no_parts (suc n) = ap (λ (z : Option (List PartOf)). with_part z None) (no_parts n)

    none : (n : ℕ) → joined_content (suc (suc n)) [] ≡ None
    none n = ap (λ (z : Option (List PartOf)). joined_parts z) (no_parts (suc n))

no_round : (group : List Accepted) → IsJoinedRound (pieces []) pieces_party joined_row group → ⊥
no_round group r = ⊎_elim
    (λ (e : group ≡ []).
    nothing_joins r.joined.key.total r.joined.content (subst (λ (z : List Accepted). joined_content r.joined.key.total z ≡ Some r.joined.content) e r.joined.joins))
    (λ (n : ⊥). n) r.among

rounds_none : (gs : List (List Accepted)) → AreJoinedRounds (pieces []) pieces_party (joined_row ∷ []) gs → ⊥
rounds_none [] are = absurd are
rounds_none (g ∷ gs) are = no_round g are.0

pub not_given : NoRoundLaw
not_given all = let x = all pieces_party (inl refl) in rounds_none x.0 x.1.0

-- ---- entries, reports, and what a handset joined

pub two_parts : TwoPartsLaw
two_parts all =
    let x = all (party writer [] writers_core) entry (inl refl) (inl refl) refl in
    let its : part_two.id ≡ x.0.id = sym (only x.0 x.2.there) in
    let q : 1 ≡ 2 = ap (λ (p : PartRow). p.number) (x.2.alone part_two (inl refl) its ∙ sym (x.2.alone (record part_two { number = 2 }) (inr (inl refl)) its)) in
    omega (arith, q)
  where
    only : (m : MessageRow) → Among m (from_writer ∷ []) → m.id ≡ 2
    only m i = ⊎_elim (λ (e : m ≡ from_writer). ap (λ (z : MessageRow). z.id) e) (λ (n : ⊥). absurd n) i

no_row : (row : JoinedRow) → row ∷ [] ≡ [] → ⊥
no_row row e = absurd cc

pub joined_unknown : JoinedUnknownLaw
joined_unknown r = no_row _ r.joined

pub entry_without_row : EntryWithoutRowLaw
entry_without_row r = (r.no_other (entry_seen writer entry) (inl refl) refl).1.0

abbrev receipt_seen : ReportSeen
receipt_seen = record { kind = Receipt; is_done = false }

pub report_unknown : ReportUnknownLaw
report_unknown r = (r.there 1 receipt_seen refl).1

pub report_without_row : ReportWithoutRowLaw
report_without_row r = let x = r.only receipt_there (inl refl) in none-some x.0 x.1

abbrev status_seen : ReportSeen
status_seen = record { kind = Status 0 status_report; is_done = false }

pub report_shut : ReportShutLaw
report_shut r = r.still 2 status_seen refl refl refl
