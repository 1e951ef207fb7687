-- The ticks of a script that was read are at moments that time stamps write, and its texts are texts.
use Rattle.std.proofs.Common.{◌≡◌, ℕ, List, [], ◌∷◌, map, Bool, true, false, refl, sym, ◌∙◌, ap, subst, inl, inr, ⊎_elim, Option, Some, None, Result, Ok, Err}
use Rattle.std.specs.Prelude.{◌&&◌, nat_le}
use Rattle.std.specs.Str.{is_utf8}
use Rattle.std.proofs.lemmas.Bool.{and_parts, cases_Bool, cond-false, cond-true, leb-true}
use Rattle.std.proofs.lemmas.Option.{same_Some}
use Rattle.sms_base.specs.Among.{Among}
use Rattle.sms_base.specs.Reading.{◌>>=◌}
use Rattle.sms_base.specs.TimeStamp.{IsMoment}
use Rattle.sms_script.specs.Numbers.{moment_of, number_of, second_in}
use Rattle.sms_script.specs.ScriptGrammar.{AreLines, IsAct, IsEvent, IsScript, Says, script_lines}
use Rattle.sms_script.specs.WholeScript.{script_in}
use Rattle.sms_script.specs.Hexadecimal.{text_of}
use Rattle.sms_script.specs.Lines.{lines_of}
use Rattle.sms_script.specs.declared.event.Act.{Act}
use Rattle.sms_script.specs.declared.event.Act.TheVariants.{Submit, Query, Cancel, Write, Delete, Discard, Deliver, Tick}
use Rattle.sms_script.specs.declared.event.EventSide.{EventSide}
use Rattle.sms_script.specs.declared.event.EventSide.TheVariants.{Centre, Handset}
use Rattle.sms_script.specs.declared.event.WorldEvent.{WorldEvent}
use Rattle.sms_script.specs.declared.event.WorldEvent.TheVariants.{Whole, Stopped, Restart}
use Rattle.sms_script.specs.declared.fault.LineFault.{LineFault}
use Rattle.sms_script.specs.declared.fault.LineFault.TheVariants.{BadLine}
use Rattle.sms_script.specs.declared.script.Script.{Script}
use Rattle.sms_script.specs.declared.setup.AccountSetup.{AccountSetup}
use Rattle.sms_script.specs.declared.setup.HandsetSetup.{HandsetSetup}
use Rattle.sms_script.proofs.ScriptLaws.{script_found}
use Rattle.sms_world.specs.scripts_are_runs.PlayRuns.{AreGood}
use Rattle.sms_world.specs.scripts_are_runs.Happening.{IsGoodAct, IsGoodEvent, IsGoodTick}
use Rattle.sms_world.specs.headline.TypedEvents.{AreTexts, AreTyped, IsTextAct, IsTextEvent}

abbrev read : ℕ → Result ℕ LineFault
read n = Ok n

abbrev unread : Result ℕ LineFault
unread = Err BadLine

same_read : (a b : ℕ) → read a ≡ read b → a ≡ b
same_read a b e = cc

second_good : (r : Result ℕ LineFault) (now : ℕ) → (r >>= second_in) ≡ read now → IsMoment now
second_good (Err fault) now e = absurd cc
second_good (Ok n) now e =
    let b : Bool = nat_le 946684800 n && nat_le n 4102444799 in
    ⊎_elim
    (λ (t : b ≡ true).
    let p = and_parts (nat_le 946684800 n) (nat_le n 4102444799) t in
    subst (λ (k : ℕ). IsMoment k) (same_read n now (sym (cond-true b (read n) unread t) ∙ e)) (record { from_2000 = leb-true 946684800 n p.0; to_2099 = leb-true n 4102444799 p.1 }))
    (λ (f : b ≡ false). let bad : unread ≡ read now = sym (cond-false b (read n) unread f) ∙ e in absurd cc)
    (cases_Bool b)

tick_good : (side : EventSide) (now : ℕ) (second : List ℕ) → moment_of second ≡ Ok now → IsGoodTick side now
tick_good Centre now second e = second_good (number_of second) now e
tick_good (Handset number) now second e = tt

act_good : (words : List (List ℕ)) (act : Act) → IsAct words act → IsGoodAct act
act_good words (Submit s) i = tt
act_good words (Query name id) i = tt
act_good words (Cancel name id) i = tt
act_good words (Write handset to report text) i = tt
act_good words (Delete handset entry) i = tt
act_good words (Discard handset entry) i = tt
act_good words (Deliver number) i = tt
act_good words (Tick side now) (of, second, i) = tick_good side now second i.2

event_good : (words : List (List ℕ)) (e : WorldEvent) → IsEvent words e → IsGoodEvent e
event_good words (Whole act) i = act_good words act i
event_good words (Stopped stop act) (rest, i) = act_good rest act i.1
event_good words (Restart side) i = tt

-- ---- among the lines

-- what lines are is the reader's own: they are named by a script that has them
abbrev ElementOf : {A : Type 0} → List A → Type 0
ElementOf {A} xs = A

abbrev one_event : WorldEvent → Script
one_event e = record { setup = record { start = 0; centre = []; accounts = []; handsets = [] }; events = e ∷ [] }

abbrev none : Script
none = record { setup = record { start = 0; centre = []; accounts = []; handsets = [] }; events = [] }

abbrev Line : Type 0
Line = ElementOf (script_lines none)

abbrev third : {A : Type 0} → List A → Option A
third [] = None
third (x ∷ []) = None
third (x ∷ y ∷ []) = None
third (x ∷ y ∷ z ∷ zs) = Some z

-- the line is that event
abbrev IsEventLine : Line → WorldEvent → Type 0
IsEventLine l e = third (script_lines (one_event e)) ≡ Some l

-- what holds of the events of all lines
module _ (P : WorldEvent → Type 0) (all : (words : List (List ℕ)) (e : WorldEvent) → IsEvent words e → P e) where
  said : (words : List (List ℕ)) (l : Line) (e : WorldEvent) → IsEventLine l e → Says words l → P e
  said words l e q says = all words e (subst (λ (z : Line). Says words z) (sym (same_Some _ l q)) says)

  of_line : (lines : List (List ℕ)) (ls : List Line) → AreLines lines ls → (l : Line) → Among l ls → (e : WorldEvent) → IsEventLine l e → P e
  of_line [] [] are l i e q = absurd i
  of_line [] (x ∷ ls) are l i e q = absurd are
  of_line (o ∷ os) [] are l i e q = absurd are
  of_line (o ∷ os) (x ∷ ls) are l i e q = ⊎_elim
      (λ (same : l ≡ x). let w = are.0.1 in said w.0 l e q (subst (λ (z : Line). Says w.0 z) (sym same) w.1.2))
      (λ (j : Among l ls). of_line os ls are.1 l j e q) i

in_map : {A B : Type 0} (f : A → B) (x : A) (xs : List A) → Among x xs → Among (f x) (map f xs)
in_map f x [] i = absurd i
in_map f x (y ∷ ys) i = ⊎_elim (λ (q : x ≡ y). inl (ap f q)) (λ (j : Among x ys). inr (in_map f x ys j)) i

-- the line of an event
abbrev IsLong : {A : Type 0} → List A → Type 0
IsLong [] = ⊥
IsLong (x ∷ []) = ⊥
IsLong (x ∷ y ∷ []) = ⊥
IsLong (x ∷ y ∷ z ∷ zs) = Unit {0}

abbrev pick : {A : Type 0} (xs : List A) → IsLong xs → A
pick [] long = absurd long
pick (x ∷ []) long = absurd long
pick (x ∷ y ∷ []) long = absurd long
pick (x ∷ y ∷ z ∷ zs) long = z

abbrev event_line : WorldEvent → Line
event_line e = pick (script_lines (one_event e)) tt

-- behind the start and the centre
abbrev rest : {A : Type 0} → List A → List A
rest [] = []
rest (x ∷ []) = []
rest (x ∷ y ∷ zs) = zs

abbrev script_of : ℕ → List ℕ → List AccountSetup → List HandsetSetup → List WorldEvent → Script
script_of start centre accounts handsets events = record { setup = record { start = start; centre = centre; accounts = accounts; handsets = handsets }; events = events }

in_lines : (start : ℕ) (centre : List ℕ) (accounts : List AccountSetup) (handsets : List HandsetSetup) (events : List WorldEvent) (x : WorldEvent) → Among x events
    → Among (event_line x) (rest (script_lines (script_of start centre accounts handsets events)))
in_lines start centre [] [] events x i = in_map event_line x events i
in_lines start centre [] (h ∷ hs) events x i = inr (in_lines start centre [] hs events x i)
in_lines start centre (a ∷ others) hs events x i = inr (in_lines start centre others hs events x i)

of_script : (P : WorldEvent → Type 0) → ((words : List (List ℕ)) (e : WorldEvent) → IsEvent words e → P e) → (text : List ℕ) (script : Script) → script_in text ≡ Ok script
    → (x : WorldEvent) → Among x script.events → P x
of_script P all text script e x i =
    let is : IsScript text script = script_found text (Ok script) e in
    of_line P all (lines_of text) (script_lines script) is.0 (event_line x)
    (inr (inr (in_lines script.setup.start script.setup.centre script.setup.accounts script.setup.handsets script.events x i))) x refl

all_good : (es : List WorldEvent) → ((e : WorldEvent) → Among e es → IsGoodEvent e) → AreGood es
all_good [] all = tt
all_good (e ∷ es) all = (all e (inl refl), all_good es (λ x i. all x (inr i)))

pub script_good : (text : List ℕ) (script : Script) → script_in text ≡ Ok script → AreGood script.events
script_good text script e = all_good script.events (of_script (λ x. IsGoodEvent x) event_good text script e)

-- ---- texts

abbrev as_text : List ℕ → Result (List ℕ) LineFault
as_text text = Ok text

abbrev unwritten : Result (List ℕ) LineFault
unwritten = Err BadLine

text_is : (text : List ℕ) → text_of text ≡ Ok text → is_utf8 text ≡ true
text_is text e = ⊎_elim
    (λ (t : is_utf8 text ≡ true). t)
    (λ (f : is_utf8 text ≡ false). let bad : unwritten ≡ as_text text = sym (cond-false (is_utf8 text) (as_text text) unwritten f) ∙ e in absurd cc)
    (cases_Bool (is_utf8 text))

act_text : (words : List (List ℕ)) (act : Act) → IsAct words act → IsTextAct act
act_text words (Submit s) i = tt
act_text words (Query name id) i = tt
act_text words (Cancel name id) i = tt
act_text words (Write handset to report text) (asked, spelling, i) = text_is text i.2.1
act_text words (Delete handset entry) i = tt
act_text words (Discard handset entry) i = tt
act_text words (Deliver number) i = tt
act_text words (Tick side now) i = tt

event_text : (words : List (List ℕ)) (e : WorldEvent) → IsEvent words e → IsTextEvent e
event_text words (Whole act) i = act_text words act i
event_text words (Stopped stop act) (rest, i) = act_text rest act i.1
event_text words (Restart side) i = tt

all_texts : (es : List WorldEvent) → ((e : WorldEvent) → Among e es → IsTextEvent e) → AreTexts es
all_texts [] all = tt
all_texts (e ∷ es) all = (all e (inl refl), all_texts es (λ x i. all x (inr i)))

pub script_texts : (text : List ℕ) (script : Script) → script_in text ≡ Ok script → AreTexts script.events
script_texts text script e = all_texts script.events (of_script (λ x. IsTextEvent x) event_text text script e)

pub script_typed : (text : List ℕ) (script : Script) → script_in text ≡ Ok script → AreTyped script.events
script_typed text script e = record { good = script_good text script e; texts = script_texts text script e }
