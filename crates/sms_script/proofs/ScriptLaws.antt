-- Scripts: what is read is in the grammar, and what is in the grammar is read.
use Rattle.std.proofs.Common.{◌≡◌, ℕ, ◌+◌, ◌<◌, ◌≤◌, Bool, true, false, cond, List, [], ◌∷◌, ◌++◌, length, map, Result, Ok, Err, refl, sym, ap, ◌∙◌, subst, arith}
use Rattle.std.specs.Prelude.{IfOk, nat_le, nat_lt}
use Rattle.std.proofs.lemmas.Bool.{leb-true, le-leb, ltb-true, lt-ltb}
use Rattle.std.proofs.lemmas.List.{append-nil, append_assoc, length-append}
use Rattle.sms_base.specs.Reading.{◌>>=◌, only_if}
use Rattle.sms_base.proofs.Steps.{bind_ok, passes}
use Rattle.sms_script.specs.Lines.{lines_of}
use Rattle.sms_script.specs.ScriptReading.{line_at}
use Rattle.sms_script.specs.ScriptGrammar.{IsLine, AreLines, script_lines, IsScript}
use Rattle.sms_script.specs.WholeScript.{most_lines, most_events, beginning, blank, next_stage, is_whole, events_in, line_in, with_line, numbered, read_lines, script_in, ReadsScript, IsReadAs}
use Rattle.sms_script.specs.declared.event.WorldEvent.{WorldEvent}
use Rattle.sms_script.specs.declared.fault.LineFault.{LineFault}
use Rattle.sms_script.specs.declared.fault.LineFault.TheVariants.{BadLine as Bad}
use Rattle.sms_script.specs.declared.fault.ScriptFault.{ScriptFault}
use Rattle.sms_script.specs.declared.fault.ScriptFault.TheVariants.{BadLine, NoMemory}
use Rattle.sms_script.specs.declared.line.Line.{Line}
use Rattle.sms_script.specs.declared.line.Line.TheVariants.{Start, Centre, Account, Handset, Event}
use Rattle.sms_script.specs.declared.progress.Progress.{Progress}
use Rattle.sms_script.specs.declared.progress.Stage.{Stage}
use Rattle.sms_script.specs.declared.progress.Stage.TheVariants.{Start as AtStart, Centre as AtCentre, Accounts as InAccounts, Handsets as InHandsets, Events as InEvents}
use Rattle.sms_script.specs.declared.script.Script.{Script}
use Rattle.sms_script.specs.declared.setup.AccountSetup.{AccountSetup as AccountOf}
use Rattle.sms_script.specs.declared.setup.HandsetSetup.{HandsetSetup}
use Rattle.sms_script.proofs.LineLaws.{line_takes, line_again}

abbrev at : ℕ → Stage → ℕ → Progress
at number stage events = record { number = number; stage = stage; events = events }

-- ---- a line

pub record IsRead (number : ℕ) (stage : Stage) (events : ℕ) (octets : List ℕ) (line : Line) (next : Progress) : Type 0 where
  pub counted : number ≤ most_lines
  pub says : line_at octets ≡ Ok line
  pub stage_is : next_stage stage line ≡ Ok next.stage
  pub events_are : events_in events line ≡ Ok next.events
  pub number_is : next.number ≡ number + 1

pub line_in_takes : (number : ℕ) (stage : Stage) (events : ℕ) (octets : List ℕ) (x : Progress × Line) → line_in (at number stage events) octets ≡ Ok x → IsRead number stage events octets x.1 x.0
unfolding line_in
line_in_takes number stage events octets x e =
    let f = bind_ok (only_if (nat_le number most_lines) Bad) _ x e in
    let l = bind_ok (line_at octets) _ x f.2 in
    let s = bind_ok (next_stage stage l.0) _ x l.2 in
    let n = bind_ok (events_in events l.0) _ x s.2 in
    let same : (at (number + 1) s.0 n.0, l.0) ≡ x = cc n.2 in
    subst (λ (y : Progress × Line). IsRead number stage events octets y.1 y.0) same
    (record { counted = leb-true number most_lines (passes (nat_le number most_lines) Bad f.0 f.1); says = l.1; stage_is = s.1; events_are = n.1; number_is = refl })

line_in_again : (number : ℕ) (stage next : Stage) (events more : ℕ) (octets : List ℕ) (line : Line) → number ≤ most_lines → line_at octets ≡ Ok line → next_stage stage line ≡ Ok next → events_in events line ≡ Ok more →
    line_in (at number stage events) octets ≡ Ok (at (number + 1) next more, line)
unfolding line_in
line_in_again number stage next events more octets line le l s n = rw (le-leb number most_lines le, l, s, n) refl

-- what follows a line
goes_on : (number : ℕ) (x : Result (Progress × Line) LineFault) (script done : Script) (lines : List (List ℕ)) →
    (numbered number x >>= (λ next. read_lines next.0 (with_line script next.1) lines)) ≡ Ok done →
    (next : Progress × Line) × ((x ≡ Ok next) × (read_lines next.0 (with_line script next.1) lines ≡ Ok done))
goes_on number (Ok next) script done lines e = (next, (refl, e))
goes_on number (Err fault) script done lines e = absurd (cc e)

-- ---- what a reading took

-- the rest of a script
record Adds (lines : List (List ℕ)) (script done : Script) (accounts : List AccountOf) (handsets : List HandsetSetup) (events : List WorldEvent) : Type 0 where
  are : AreLines lines (map (λ account. Account account) accounts ++ (map (λ handset. Handset handset) handsets ++ map (λ event. Event event) events))
  accounts_are : done.setup.accounts ≡ script.setup.accounts ++ accounts
  handsets_are : done.setup.handsets ≡ script.setup.handsets ++ handsets
  events_are : done.events ≡ script.events ++ events
  start_is : done.setup.start ≡ script.setup.start
  centre_is : done.setup.centre ≡ script.setup.centre

-- each line has its number, and each event too
record Counts (number events : ℕ) (lines : List (List ℕ)) (script done : Script) : Type 0 where
  few_lines : number + length lines ≤ most_lines + 1
  few_events : length done.events ≤ most_events

more_event : (xs : List WorldEvent) (x : WorldEvent) → length (xs ++ x ∷ []) ≡ length xs + 1
more_event xs x = length-append xs (x ∷ [])

events_count : (events more : ℕ) (script : Script) (line : Line) → events ≡ length script.events → events ≤ most_events → events_in events line ≡ Ok more → (more ≡ length (with_line script line).events) × (more ≤ most_events)
events_count events more script (Start start) c le e = let same : events ≡ more = cc e in (sym same ∙ c, subst (λ n. n ≤ most_events) same le)
events_count events more script (Centre number) c le e = let same : events ≡ more = cc e in (sym same ∙ c, subst (λ n. n ≤ most_events) same le)
events_count events more script (Account account) c le e = let same : events ≡ more = cc e in (sym same ∙ c, subst (λ n. n ≤ most_events) same le)
events_count events more script (Handset handset) c le e = let same : events ≡ more = cc e in (sym same ∙ c, subst (λ n. n ≤ most_events) same le)
events_count events more script (Event event) c le e = by (nat_lt events most_events) refl e where
  by : (b : Bool) → nat_lt events most_events ≡ b → (let r : Result ℕ LineFault = cond b (Ok (events + 1)) (Err Bad) in r ≡ Ok more) → (more ≡ length (script.events ++ event ∷ [])) × (more ≤ most_events)
  by true t e =
      let same : events + 1 ≡ more = cc e in
      let size = more_event script.events event in
      let lt = ltb-true events most_events t in
      (omega arith, omega arith)
  by false t e = absurd (cc e)

counts : (number : ℕ) (stage : Stage) (events : ℕ) (script done : Script) (lines : List (List ℕ)) → events ≡ length script.events → events ≤ most_events → number ≤ most_lines + 1 → read_lines (at number stage events) script lines ≡ Ok done → Counts number events lines script done
counts number stage events script done [] c le n e = by (is_whole stage) e where
  by : (b : Bool) → (let r : Result Script ℕ = cond b (Ok script) (Err number) in r ≡ Ok done) → Counts number events [] script done
  by true e = let same : script ≡ done = cc e in record { few_lines = omega arith; few_events = subst (λ (s : Script). length s.events ≤ most_events) same (omega arith) }
  by false e = absurd (cc e)
counts number stage events script done (octets ∷ lines) c le n e =
    let g = goes_on number (line_in (at number stage events) octets) script done lines e in
    let r = line_in_takes number stage events octets g.0 g.1.0 in
    let k = events_count events g.0.0.events script g.0.1 c le r.events_are in
    let counted : number ≤ most_lines = r.counted in
    let next : g.0.0.number ≡ number + 1 = r.number_is in
    let again = counts g.0.0.number g.0.0.stage g.0.0.events (with_line script g.0.1) done lines k.0 k.1 (omega arith) g.1.1 in
    let few = again.few_lines in
    record { few_lines = omega arith; few_events = again.few_events }

-- ---- events, then handsets, then accounts, from the last line on

event_line : (octets : List ℕ) (lines : List (List ℕ)) (event : WorldEvent) (script done : Script) (events : List WorldEvent) → line_at octets ≡ Ok (Event event) → Adds lines (with_line script (Event event)) done [] [] events → Adds (octets ∷ lines) script done [] [] (event ∷ events)
event_line octets lines event script done events e h = record {
  are = (line_takes octets (Event event) e, h.are);
  accounts_are = h.accounts_are;
  handsets_are = h.handsets_are;
  events_are = h.events_are ∙ append_assoc script.events (event ∷ []) events;
  start_is = h.start_is;
  centre_is = h.centre_is;
}

handset_line : (octets : List ℕ) (lines : List (List ℕ)) (handset : HandsetSetup) (script done : Script) (handsets : List HandsetSetup) (events : List WorldEvent) → line_at octets ≡ Ok (Handset handset) → Adds lines (with_line script (Handset handset)) done [] handsets events → Adds (octets ∷ lines) script done [] (handset ∷ handsets) events
handset_line octets lines handset script done handsets events e h = record {
  are = (line_takes octets (Handset handset) e, h.are);
  accounts_are = h.accounts_are;
  handsets_are = h.handsets_are ∙ append_assoc script.setup.handsets (handset ∷ []) handsets;
  events_are = h.events_are;
  start_is = h.start_is;
  centre_is = h.centre_is;
}

account_line : (octets : List ℕ) (lines : List (List ℕ)) (account : AccountOf) (script done : Script) (accounts : List AccountOf) (handsets : List HandsetSetup) (events : List WorldEvent) → line_at octets ≡ Ok (Account account) → Adds lines (with_line script (Account account)) done accounts handsets events → Adds (octets ∷ lines) script done (account ∷ accounts) handsets events
account_line octets lines account script done accounts handsets events e h = record {
  are = (line_takes octets (Account account) e, h.are);
  accounts_are = h.accounts_are ∙ append_assoc script.setup.accounts (account ∷ []) accounts;
  handsets_are = h.handsets_are;
  events_are = h.events_are;
  start_is = h.start_is;
  centre_is = h.centre_is;
}

nothing : (script done : Script) → script ≡ done → Adds [] script done [] [] []
nothing script done e =
    subst (λ d. Adds [] script d [] [] []) e
    (record { are = tt; accounts_are = sym (append-nil script.setup.accounts); handsets_are = sym (append-nil script.setup.handsets); events_are = sym (append-nil script.events); start_is = refl; centre_is = refl })

-- what a script has read so far ends it
ended : (stage : Stage) (number : ℕ) (script done : Script) → (let r : Result Script ℕ = cond (is_whole stage) (Ok script) (Err number) in r ≡ Ok done) → script ≡ done
ended AtStart number script done e = absurd (cc e)
ended AtCentre number script done e = absurd (cc e)
ended InAccounts number script done e = cc e
ended InHandsets number script done e = cc e
ended InEvents number script done e = cc e

abbrev EventsRead : List (List ℕ) → Script → Script → Type 0
EventsRead lines script done = (events : List WorldEvent) × Adds lines script done [] [] events

events_read : (p : Progress) (script done : Script) (lines : List (List ℕ)) → p.stage ≡ InEvents → read_lines p script lines ≡ Ok done → EventsRead lines script done
events_read p script done [] s e = ([], nothing script done (ended p.stage p.number script done e))
events_read p script done (octets ∷ lines) s e =
    let g = goes_on p.number (line_in p octets) script done lines e in
    let r = line_in_takes p.number p.stage p.events octets g.0 g.1.0 in
    by g.0.1 g.0.0.stage (subst (λ t. next_stage t g.0.1 ≡ Ok g.0.0.stage) s r.stage_is) r.says (λ t. events_read g.0.0 (with_line script g.0.1) done lines t g.1.1)
  where
    by : (line : Line) (next : Stage) → next_stage InEvents line ≡ Ok next → line_at octets ≡ Ok line → (next ≡ InEvents → EventsRead lines (with_line script line) done) → EventsRead (octets ∷ lines) script done
    by (Event event) next t l again = let h = again (cc t) in (event ∷ h.0, event_line octets lines event script done h.0 l h.1)
    by (Start start) next t l again = absurd (cc t)
    by (Centre number) next t l again = absurd (cc t)
    by (Account account) next t l again = absurd (cc t)
    by (Handset handset) next t l again = absurd (cc t)

abbrev HandsetsRead : List (List ℕ) → Script → Script → Type 0
HandsetsRead lines script done = (handsets : List HandsetSetup) × (events : List WorldEvent) × Adds lines script done [] handsets events

handsets_read : (p : Progress) (script done : Script) (lines : List (List ℕ)) → p.stage ≡ InHandsets → read_lines p script lines ≡ Ok done → HandsetsRead lines script done
handsets_read p script done [] s e = ([], [], nothing script done (ended p.stage p.number script done e))
handsets_read p script done (octets ∷ lines) s e =
    let g = goes_on p.number (line_in p octets) script done lines e in
    let r = line_in_takes p.number p.stage p.events octets g.0 g.1.0 in
    by g.0.1 g.0.0.stage (subst (λ t. next_stage t g.0.1 ≡ Ok g.0.0.stage) s r.stage_is) r.says
    (λ t. handsets_read g.0.0 (with_line script g.0.1) done lines t g.1.1)
    (λ t. events_read g.0.0 (with_line script g.0.1) done lines t g.1.1)
  where
    by : (line : Line) (next : Stage) → next_stage InHandsets line ≡ Ok next → line_at octets ≡ Ok line → (next ≡ InHandsets → HandsetsRead lines (with_line script line) done) → (next ≡ InEvents → EventsRead lines (with_line script line) done) → HandsetsRead (octets ∷ lines) script done
    by (Event event) next t l again events = let h = events (cc t) in ([], event ∷ h.0, event_line octets lines event script done h.0 l h.1)
    by (Handset handset) next t l again events = let h = again (cc t) in (handset ∷ h.0, h.1, handset_line octets lines handset script done h.0 h.1 l h.2)
    by (Start start) next t l again events = absurd (cc t)
    by (Centre number) next t l again events = absurd (cc t)
    by (Account account) next t l again events = absurd (cc t)

abbrev AccountsRead : List (List ℕ) → Script → Script → Type 0
AccountsRead lines script done = (accounts : List AccountOf) × (handsets : List HandsetSetup) × (events : List WorldEvent) × Adds lines script done accounts handsets events

accounts_read : (p : Progress) (script done : Script) (lines : List (List ℕ)) → p.stage ≡ InAccounts → read_lines p script lines ≡ Ok done → AccountsRead lines script done
accounts_read p script done [] s e = ([], [], [], nothing script done (ended p.stage p.number script done e))
accounts_read p script done (octets ∷ lines) s e =
    let g = goes_on p.number (line_in p octets) script done lines e in
    let r = line_in_takes p.number p.stage p.events octets g.0 g.1.0 in
    by g.0.1 g.0.0.stage (subst (λ t. next_stage t g.0.1 ≡ Ok g.0.0.stage) s r.stage_is) r.says
    (λ t. accounts_read g.0.0 (with_line script g.0.1) done lines t g.1.1)
    (λ t. handsets_read g.0.0 (with_line script g.0.1) done lines t g.1.1)
    (λ t. events_read g.0.0 (with_line script g.0.1) done lines t g.1.1)
  where
    by : (line : Line) (next : Stage) → next_stage InAccounts line ≡ Ok next → line_at octets ≡ Ok line → (next ≡ InAccounts → AccountsRead lines (with_line script line) done) → (next ≡ InHandsets → HandsetsRead lines (with_line script line) done) → (next ≡ InEvents → EventsRead lines (with_line script line) done) → AccountsRead (octets ∷ lines) script done
    by (Event event) next t l again handsets events = let h = events (cc t) in ([], [], event ∷ h.0, event_line octets lines event script done h.0 l h.1)
    by (Handset handset) next t l again handsets events = let h = handsets (cc t) in ([], handset ∷ h.0, h.1, handset_line octets lines handset script done h.0 h.1 l h.2)
    by (Account account) next t l again handsets events = let h = again (cc t) in (account ∷ h.0, h.1, h.2, account_line octets lines account script done h.0 h.1 h.2 l h.3)
    by (Start start) next t l again handsets events = absurd (cc t)
    by (Centre number) next t l again handsets events = absurd (cc t)

-- ---- whole scripts

abbrev CentreRead : ℕ → List (List ℕ) → Script → Type 0
CentreRead start lines done =
    (done.setup.start ≡ start) × AreLines lines (Centre done.setup.centre ∷ (map (λ account. Account account) done.setup.accounts ++ (map (λ handset. Handset handset) done.setup.handsets ++ map (λ event. Event event) done.events)))

centre_read : (p : Progress) (start : ℕ) (done : Script) (lines : List (List ℕ)) → p.stage ≡ AtCentre → read_lines p (with_line blank (Start start)) lines ≡ Ok done → CentreRead start lines done
centre_read p start done [] s e = let q = subst (λ t. (let r : Result Script ℕ = cond (is_whole t) (Ok (with_line blank (Start start))) (Err p.number) in r ≡ Ok done)) s e in absurd (cc q)
centre_read p start done (octets ∷ lines) s e =
    let g = goes_on p.number (line_in p octets) (with_line blank (Start start)) done lines e in
    let r = line_in_takes p.number p.stage p.events octets g.0 g.1.0 in
    by g.0.1 g.0.0.stage (subst (λ t. next_stage t g.0.1 ≡ Ok g.0.0.stage) s r.stage_is) r.says (λ t. accounts_read g.0.0 (with_line (with_line blank (Start start)) g.0.1) done lines t g.1.1)
  where
    by : (line : Line) (next : Stage) → next_stage AtCentre line ≡ Ok next → line_at octets ≡ Ok line → (next ≡ InAccounts → AccountsRead lines (with_line (with_line blank (Start start)) line) done) → CentreRead start (octets ∷ lines) done
    by (Centre number) next t l again =
        let h = again (cc t) in
        let a = h.3 in
        (a.start_is, rw (a.centre_is, a.accounts_are, a.handsets_are, a.events_are) (line_takes octets (Centre number) l, a.are))
    by (Event event) next t l again = absurd (cc t)
    by (Handset handset) next t l again = absurd (cc t)
    by (Account account) next t l again = absurd (cc t)
    by (Start other) next t l again = absurd (cc t)

start_read : (p : Progress) (done : Script) (lines : List (List ℕ)) → p.stage ≡ AtStart → read_lines p blank lines ≡ Ok done → AreLines lines (script_lines done)
start_read p done [] s e = let q = subst (λ t. (let r : Result Script ℕ = cond (is_whole t) (Ok blank) (Err p.number) in r ≡ Ok done)) s e in absurd (cc q)
start_read p done (octets ∷ lines) s e =
    let g = goes_on p.number (line_in p octets) blank done lines e in
    let r = line_in_takes p.number p.stage p.events octets g.0 g.1.0 in
    by g.0.1 g.0.0.stage (subst (λ t. next_stage t g.0.1 ≡ Ok g.0.0.stage) s r.stage_is) r.says (λ start t same. centre_read g.0.0 start done lines t (subst (λ line. read_lines g.0.0 (with_line blank line) lines ≡ Ok done) same g.1.1))
  where
    by : (line : Line) (next : Stage) → next_stage AtStart line ≡ Ok next → line_at octets ≡ Ok line → ((start : ℕ) → next ≡ AtCentre → line ≡ Start start → CentreRead start lines done) → AreLines (octets ∷ lines) (script_lines done)
    by (Start start) next t l again = let c = again start (cc t) refl in (subst (λ n. IsLine octets (Start n)) (sym c.0) (line_takes octets (Start start) l), c.1)
    by (Centre number) next t l again = absurd (cc t)
    by (Event event) next t l again = absurd (cc t)
    by (Handset handset) next t l again = absurd (cc t)
    by (Account account) next t l again = absurd (cc t)

read_found : (text : List ℕ) (script : Script) → script_in text ≡ Ok script → IsScript text script
unfolding script_in
read_found text script e =
    let c = counts 1 AtStart 0 blank script (lines_of text) refl (omega arith) (omega arith) e in
    let few = c.few_lines in
    (start_read beginning script (lines_of text) refl e, omega arith, c.few_events)

pub script_found : (text : List ℕ) (r : Result Script ScriptFault) → ReadsScript r (script_in text) → IfOk r (λ script. IsScript text script)
script_found text (Ok script) e = read_found text script e
script_found text (Err fault) e = tt

-- ---- what is read again

read_on : (number : ℕ) (stage next : Stage) (events more : ℕ) (octets : List ℕ) (line : Line) (script done : Script) (lines : List (List ℕ)) → number ≤ most_lines → IsLine octets line → next_stage stage line ≡ Ok next →
    events_in events line ≡ Ok more → read_lines (at (number + 1) next more) (with_line script line) lines ≡ Ok done → read_lines (at number stage events) script (octets ∷ lines) ≡ Ok done
read_on number stage next events more octets line script done lines le l s n h = rw (line_in_again number stage next events more octets line le (line_again octets line l) s n) h

-- a script with more accounts, handsets and events
abbrev adding : Script → List AccountOf → List HandsetSetup → List WorldEvent → Script
adding script accounts handsets events = record {
  setup = record { start = script.setup.start; centre = script.setup.centre; accounts = script.setup.accounts ++ accounts; handsets = script.setup.handsets ++ handsets };
  events = script.events ++ events;
}

adding_none : (script : Script) → script ≡ adding script [] [] []
adding_none script =
    let a = sym (append-nil script.setup.accounts) in
    let h = sym (append-nil script.setup.handsets) in
    let e = sym (append-nil script.events) in
    λ j. record { setup = record { start = script.setup.start; centre = script.setup.centre; accounts = a j; handsets = h j }; events = e j }

one_event : (script : Script) (event : WorldEvent) (events : List WorldEvent) → adding (with_line script (Event event)) [] [] events ≡ adding script [] [] (event ∷ events)
one_event script event events = ap (λ (es : List WorldEvent). record (adding script [] [] []) { events = es }) (append_assoc script.events (event ∷ []) events)

one_handset : (script : Script) (handset : HandsetSetup) (handsets : List HandsetSetup) (events : List WorldEvent) → adding (with_line script (Handset handset)) [] handsets events ≡ adding script [] (handset ∷ handsets) events
one_handset script handset handsets events =
    ap (λ (hs : List HandsetSetup). record { setup = record { start = script.setup.start; centre = script.setup.centre; accounts = script.setup.accounts ++ []; handsets = hs }; events = script.events ++ events })
    (append_assoc script.setup.handsets (handset ∷ []) handsets)

one_account : (script : Script) (account : AccountOf) (accounts : List AccountOf) (handsets : List HandsetSetup) (events : List WorldEvent) → adding (with_line script (Account account)) accounts handsets events ≡ adding script (account ∷ accounts) handsets events
one_account script account accounts handsets events =
    ap (λ (xs : List AccountOf). record { setup = record { start = script.setup.start; centre = script.setup.centre; accounts = xs; handsets = script.setup.handsets ++ handsets }; events = script.events ++ events })
    (append_assoc script.setup.accounts (account ∷ []) accounts)

event_counted : (events : ℕ) (event : WorldEvent) → events < most_events → events_in events (Event event) ≡ Ok (events + 1)
event_counted events event lt = rw (lt-ltb events most_events lt) refl

events_again : (stage : Stage) (number count : ℕ) (script : Script) (lines : List (List ℕ)) (events : List WorldEvent) → ((event : WorldEvent) → next_stage stage (Event event) ≡ Ok InEvents) → is_whole stage ≡ true →
    AreLines lines (map (λ event. Event event) events) → number + length lines ≤ most_lines + 1 → count + length events ≤ most_events → read_lines (at number stage count) script lines ≡ Ok (adding script [] [] events)
events_again stage number count script [] [] s w h few some = rw w (ap (λ (d : Script). Ok d) (adding_none script))
events_again stage number count script [] (event ∷ events) s w h few some = absurd h
events_again stage number count script (octets ∷ lines) [] s w h few some = absurd h
events_again stage number count script (octets ∷ lines) (event ∷ events) s w h few some =
    read_on number stage InEvents count (count + 1) octets (Event event) script _ lines (omega arith) h.0 (s event) (event_counted count event (omega arith))
    (events_again InEvents (number + 1) (count + 1) (with_line script (Event event)) lines events (λ _. refl) refl h.1 (omega arith) (omega arith) ∙ ap (λ (d : Script). Ok d) (one_event script event events))

handsets_again : (stage : Stage) (number count : ℕ) (script : Script) (lines : List (List ℕ)) (handsets : List HandsetSetup) (events : List WorldEvent) → ((handset : HandsetSetup) → next_stage stage (Handset handset) ≡ Ok InHandsets) →
    ((event : WorldEvent) → next_stage stage (Event event) ≡ Ok InEvents) → is_whole stage ≡ true → AreLines lines (map (λ handset. Handset handset) handsets ++ map (λ event. Event event) events) →
    number + length lines ≤ most_lines + 1 → count + length events ≤ most_events → read_lines (at number stage count) script lines ≡ Ok (adding script [] handsets events)
handsets_again stage number count script lines [] events t s w h few some = events_again stage number count script lines events s w h few some
handsets_again stage number count script [] (handset ∷ handsets) events t s w h few some = absurd h
handsets_again stage number count script (octets ∷ lines) (handset ∷ handsets) events t s w h few some =
    read_on number stage InHandsets count count octets (Handset handset) script _ lines (omega arith) h.0 (t handset) refl
    (handsets_again InHandsets (number + 1) count (with_line script (Handset handset)) lines handsets events (λ _. refl) (λ _. refl) refl h.1 (omega arith) some ∙ ap (λ (d : Script). Ok d) (one_handset script handset handsets events))

accounts_again : (number count : ℕ) (script : Script) (lines : List (List ℕ)) (accounts : List AccountOf) (handsets : List HandsetSetup) (events : List WorldEvent) →
    AreLines lines (map (λ account. Account account) accounts ++ (map (λ handset. Handset handset) handsets ++ map (λ event. Event event) events)) →
    number + length lines ≤ most_lines + 1 → count + length events ≤ most_events → read_lines (at number InAccounts count) script lines ≡ Ok (adding script accounts handsets events)
accounts_again number count script lines [] handsets events h few some = handsets_again InAccounts number count script lines handsets events (λ _. refl) (λ _. refl) refl h few some
accounts_again number count script [] (account ∷ accounts) handsets events h few some = absurd h
accounts_again number count script (octets ∷ lines) (account ∷ accounts) handsets events h few some =
    read_on number InAccounts InAccounts count count octets (Account account) script _ lines (omega arith) h.0 refl refl
    (accounts_again (number + 1) count (with_line script (Account account)) lines accounts handsets events h.1 (omega arith) some ∙ ap (λ (d : Script). Ok d) (one_account script account accounts handsets events))

lines_again : (lines : List (List ℕ)) (s : Script) → AreLines lines (script_lines s) → length lines ≤ most_lines → length s.events ≤ most_events → read_lines beginning blank lines ≡ Ok s
lines_again [] s h few some = absurd h
lines_again (first ∷ []) s h few some = absurd h.1
lines_again (first ∷ second ∷ lines) s h few some =
    read_on 1 AtStart AtCentre 0 0 first (Start s.setup.start) blank s (second ∷ lines) (omega arith) h.0 refl refl
    (read_on 2 AtCentre InAccounts 0 0 second (Centre s.setup.centre) (with_line blank (Start s.setup.start)) s lines (omega arith) h.1.0 refl refl
    (accounts_again 3 0 (with_line (with_line blank (Start s.setup.start)) (Centre s.setup.centre)) lines s.setup.accounts s.setup.handsets s.events h.1.1 (omega arith) (omega arith)))

pub script_only : (text : List ℕ) (script : Script) (r : Result Script ScriptFault) → ReadsScript r (script_in text) → IsScript text script → IsReadAs script r
unfolding script_in
script_only text script (Ok read) e h = let again = lines_again (lines_of text) script h.0 h.1 h.2 in cc
script_only text script (Err (BadLine number)) e h = let again = lines_again (lines_of text) script h.0 h.1 h.2 in absurd (cc)
script_only text script (Err NoMemory) e h = tt

pub one_script : (text : List ℕ) (one other : Script) → IsScript text one → IsScript text other → one ≡ other
one_script text one other h k = let a = lines_again (lines_of text) one h.0 h.1 h.2 in let b = lines_again (lines_of text) other k.0 k.1 k.2 in cc
