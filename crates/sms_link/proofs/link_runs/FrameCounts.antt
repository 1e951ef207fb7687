-- A frame is counted at one end of a link as it is counted at the links below.
use Rattle.std.proofs.Common.{◌≡◌, ℕ, zero, suc, ◌+◌, ◌*◌, ◌-◌, ◌≤◌, arith, List, [], ◌∷◌, refl, sym, ◌∙◌, ap}
use Rattle.std.specs.Prelude.{if◌then◌else◌}
use Rattle.std.specs.Str.{bytes_eq}
use Rattle.sms_control.specs.declared.link_state.LinkState.{LinkState}
use Rattle.sms_control.specs.LinkRuns.{step, times as links_times, sent_by as links_sent_by, repeated_by as links_repeated_by, sendings as links_sendings, repeats as links_repeats}
use Rattle.sms_control.proofs.RepetitionLaws.{repeats_at_most_twice}
use Rattle.sms_link.specs.declared.ending.Side.{Side}
use Rattle.sms_link.specs.declared.outgoing.Outgoing.{Outgoing}
use Rattle.sms_link.specs.LinkCalls.{LinkCall, Begin, Reply, Take, Fire, turn, run}
use Rattle.sms_link.specs.LinkTurn.{LinkOf, new_link}
use Rattle.sms_link.specs.link_runs.FramesSent.{times, sent_by, repeated_by, sendings, repeats}
use Rattle.sms_link.proofs.link_runs.NeverSent.{never_repeated}
use Rattle.sms_link.proofs.link_runs.LinksBelow.{call_of, calls_of, octets_of, turn_follows, run_follows}

times_below : (octets : List ℕ) (fs : List Outgoing) → times octets fs ≡ links_times octets (octets_of fs)
times_below octets [] = refl
times_below octets (f ∷ fs) = ap (λ (n : ℕ). (if bytes_eq octets f.octets then 1 else 0) + n) (times_below octets fs)

-- what a call sends is sent below
times_turned : (octets : List ℕ) (c : LinkCall) (l : LinkOf) → times octets (turn c l).out.frames ≡ links_times octets (step (call_of c) l.links).out.frames
times_turned octets c l = times_below octets (turn c l).out.frames ∙ ap (λ (fs : List (List ℕ)). links_times octets fs) (turn_follows c l).1

sent_below : (octets : List ℕ) (c : LinkCall) (l : LinkOf) → sent_by octets c (turn c l).out ≡ links_sent_by octets (call_of c) (step (call_of c) l.links).out
sent_below octets (Begin now reference tag unit) l = times_turned octets (Begin now reference tag unit) l
sent_below octets (Reply now kind reference tag unit) l = times_turned octets (Reply now kind reference tag unit) l
sent_below octets (Take frame) l = refl
sent_below octets (Fire now) l = refl

repeated_below : (octets : List ℕ) (c : LinkCall) (l : LinkOf) → repeated_by octets c (turn c l).out ≡ links_repeated_by octets (call_of c) (step (call_of c) l.links).out
repeated_below octets (Begin now reference tag unit) l = refl
repeated_below octets (Reply now kind reference tag unit) l = refl
repeated_below octets (Take frame) l = refl
repeated_below octets (Fire now) l = times_turned octets (Fire now) l

-- ---- over calls

sendings_below : (octets : List ℕ) (cs : List LinkCall) (l : LinkOf) → sendings octets cs l ≡ links_sendings octets (calls_of cs) l.links
sendings_below octets [] l = refl
sendings_below octets (c ∷ cs) l =
    let here = sent_below octets c l in
    let rest = sendings_below octets cs (turn c l).link ∙ ap (λ (s : LinkState). links_sendings octets (calls_of cs) s) (turn_follows c l).0 in
    omega (arith, here, rest)

repeats_below : (octets : List ℕ) (cs : List LinkCall) (l : LinkOf) → repeats octets cs l ≡ links_repeats octets (calls_of cs) l.links
repeats_below octets [] l = refl
repeats_below octets (c ∷ cs) l =
    let here = repeated_below octets c l in
    let rest = repeats_below octets cs (turn c l).link ∙ ap (λ (s : LinkState). links_repeats octets (calls_of cs) s) (turn_follows c l).0 in
    omega (arith, here, rest)

pub twice_more_at_most : (side : Side) (before after : List LinkCall) (frame : List ℕ) → sendings frame after (run before (new_link side)) ≡ 0 → repeats frame after (run before (new_link side)) ≤ 2
twice_more_at_most side before after frame none =
    let l = run before (new_link side) in
    let below = run_follows before (new_link side) in
    let sent = sendings_below frame after l ∙ ap (λ (s : LinkState). links_sendings frame (calls_of after) s) below in
    let again = repeats_below frame after l ∙ ap (λ (s : LinkState). links_repeats frame (calls_of after) s) below in
    let most = repeats_at_most_twice (calls_of before) (calls_of after) frame (sym sent ∙ none) in
    omega (arith, again, most)

-- ---- three times in all for each time that the layer above has it sent

never_sent : (side : Side) (calls : List LinkCall) (frame : List ℕ) → sendings frame calls (new_link side) ≡ 0 → repeats frame calls (new_link side) ≡ 0
never_sent side calls frame none = repeats_below frame calls (new_link side) ∙ never_repeated frame (calls_of calls) (sym (sendings_below frame calls (new_link side)) ∙ none)

-- a call that has it sent is no timer's
no_timer : (frame : List ℕ) (c : LinkCall) (l : LinkOf) (n : ℕ) → sent_by frame c (turn c l).out ≡ suc n → repeated_by frame c (turn c l).out ≡ 0
no_timer frame (Begin now reference tag unit) l n e = refl
no_timer frame (Reply now kind reference tag unit) l n e = refl
no_timer frame (Take other) l n e = refl
no_timer frame (Fire now) l n e = absurd cc

-- wherever calls lead from there, timers send it twice at most until it is sent anew
abbrev Lasting : List ℕ → LinkOf → Type 0
Lasting frame l = (before after : List LinkCall) → sendings frame after (run before l) ≡ 0 → repeats frame after (run before l) ≤ 2

-- from there, timers send it that often at most until it is sent anew
abbrev Bounded : List ℕ → ℕ → LinkOf → Type 0
Bounded frame most l = (after : List LinkCall) → sendings frame after l ≡ 0 → repeats frame after l ≤ most

-- a call, and then the others
call_bounded : (frame : List ℕ) (c : LinkCall) (cs : List LinkCall) (l : LinkOf) (most n : ℕ) → sent_by frame c (turn c l).out ≡ n → Lasting frame l → Bounded frame most l
    → ((m : ℕ) → Bounded frame m (turn c l).link → repeats frame cs (turn c l).link ≤ m + 2 * sendings frame cs (turn c l).link) → repeats frame (c ∷ cs) l ≤ most + 2 * sendings frame (c ∷ cs) l
call_bounded frame c cs l most zero e lasting bounded rest =
    let again : ℕ = repeated_by frame c (turn c l).out in
    let top : again + 0 ≤ most = bounded (c ∷ []) (omega (arith, e)) in
    let less : Bounded frame (most - again) (turn c l).link = λ after none. let all = bounded (c ∷ after) (omega (arith, e, none)) in omega (arith, all) in
    let others = rest (most - again) less in
    omega (arith, e, top, others)
call_bounded frame c cs l most (suc n) e lasting bounded rest =
    let none = no_timer frame c l n e in
    let others = rest 2 (λ after z. lasting (c ∷ []) after z) in
    omega (arith, e, none, others)

calls_bounded : (frame : List ℕ) (cs : List LinkCall) (l : LinkOf) (most : ℕ) → Lasting frame l → Bounded frame most l → repeats frame cs l ≤ most + 2 * sendings frame cs l
calls_bounded frame [] l most lasting bounded = omega arith
calls_bounded frame (c ∷ cs) l most lasting bounded =
    call_bounded frame c cs l most (sent_by frame c (turn c l).out) refl lasting bounded (λ m b. calls_bounded frame cs (turn c l).link m (λ before after none. lasting (c ∷ before) after none) b)

pub three_times_in_all : (side : Side) (calls : List LinkCall) (frame : List ℕ) → sendings frame calls (new_link side) + repeats frame calls (new_link side) ≤ 3 * sendings frame calls (new_link side)
three_times_in_all side calls frame =
    let twice = calls_bounded frame calls (new_link side) 0 (λ before after none. twice_more_at_most side before after frame none) (λ after none. let never = never_sent side after frame none in omega (arith, never)) in
    omega (arith, twice)
