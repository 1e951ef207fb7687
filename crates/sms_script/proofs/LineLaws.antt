-- Lines: what a line that is read says stands in it, and what stands in a line is read.
use Rattle.std.proofs.Common.{◌≡◌, ℕ, true, List, [], ◌∷◌, length, Option, Some, None, Result, Ok, refl, sym, ap, ◌∙◌, subst}
use Rattle.std.specs.Prelude.{nat_le}
use Rattle.std.proofs.lemmas.Bool.{leb-true, le-leb}
use Rattle.sms_base.specs.Reading.{◌>>=◌, only_if}
use Rattle.sms_base.proofs.Steps.{bind_ok, passes}
use Rattle.sms_script.specs.Lines.{words_of}
use Rattle.sms_script.specs.Keywords.{keyword_text, keyword_of}
use Rattle.sms_script.specs.Numbers.{number_of}
use Rattle.sms_script.specs.ScriptReading.{word_in, field_in, done_in, side_of, stop_of, act_of, act_in, start_in, centre_in, account_in, handset_in, restart_in, stopped_in, whole_in, line_of, longest_line, line_at}
use Rattle.sms_script.specs.ScriptGrammar.{IsAct, stop_text, AreWords, Says, IsLine}
use Rattle.sms_script.specs.declared.event.Act.{Act}
use Rattle.sms_script.specs.declared.event.EventSide.{EventSide}
use Rattle.sms_script.specs.declared.event.StopPoint.{StopPoint}
use Rattle.sms_script.specs.declared.event.WorldEvent.TheVariants.{Whole, Stopped, Restart}
use Rattle.sms_script.specs.declared.fault.LineFault.{LineFault}
use Rattle.sms_script.specs.declared.fault.LineFault.TheVariants.{BadLine}
use Rattle.sms_script.specs.declared.keyword.Keyword.{Keyword}
use Rattle.sms_script.specs.declared.keyword.Keyword.TheVariants.{Start as StartWord, Centre as CentreWord, Account as AccountWord, Handset as HandsetWord, Restart as RestartWord, Stopped as StoppedWord}
use Rattle.sms_script.specs.declared.line.Line.{Line}
use Rattle.sms_script.specs.declared.line.Line.TheVariants.{Start, Centre, Account, Handset, Event}
use Rattle.sms_script.specs.declared.setup.AccountSetup.{AccountSetup as AccountOf}
use Rattle.sms_script.specs.declared.setup.HandsetSetup.{HandsetSetup}
use Rattle.sms_script.proofs.WordLaws.{word_takes, word_again, field_takes, field_again, side_takes, side_again, stop_takes, stop_again, keyword_takes, keyword_again, keyword_good}
use Rattle.sms_script.proofs.ActLaws.{Ends, ends_on, act_of_takes, act_takes, act_again}

-- ---- what a reading took

-- good words, which say the line behind a keyword
abbrev Took : Keyword → List (List ℕ) → Line → Type 0
Took k words line = AreWords words × Says (keyword_text k ∷ words) line

took : (k : Keyword) (words fields : List (List ℕ)) (line done : Line) → Ends words fields → line ≡ done → Says (keyword_text k ∷ fields) line → Took k words done
took k words fields line done h is says =
    (subst (λ l. AreWords l) (sym h.0) h.1, subst (λ l. Says (keyword_text k ∷ l) done) (sym h.0) (subst (λ d. Says (keyword_text k ∷ fields) d) is says))

at_end : (z : Line × List (List ℕ)) (line : Line) (rest : List (List ℕ)) → (let r : Result (Line × List (List ℕ)) LineFault = Ok (line, rest) in r ≡ Ok z) → z.1 ≡ [] → (line ≡ z.0) × Ends rest []
at_end z line rest e none =
    let same : (line, rest) ≡ z = cc e in
    (ap (λ (y : Line × List (List ℕ)). y.0) same, (ap (λ (y : Line × List (List ℕ)). y.1) same ∙ none, tt))

start_takes : (words : List (List ℕ)) (z : Line × List (List ℕ)) → start_in words ≡ Ok z → z.1 ≡ [] → Took StartWord words z.0
unfolding start_in
start_takes words z e none =
    let a = bind_ok (field_in number_of words) _ z e in
    let p = field_takes number_of words a.0 a.1 in
    let last = at_end z (Start a.0.0) a.0.1 a.2 none in
    took StartWord words _ _ z.0 (ends_on p.word words a.0.1 [] p.words_are p.good last.1) last.0 (p.word, (refl, p.value))

centre_takes : (words : List (List ℕ)) (z : Line × List (List ℕ)) → centre_in words ≡ Ok z → z.1 ≡ [] → Took CentreWord words z.0
unfolding centre_in
centre_takes words z e none =
    let a = bind_ok (word_in words) _ z e in
    let p = word_takes words a.0 a.1 in
    let last = at_end z (Centre a.0.0) a.0.1 a.2 none in
    took CentreWord words _ _ z.0 (ends_on a.0.0 words a.0.1 [] p.0 p.1 last.1) last.0 refl

account_takes : (words : List (List ℕ)) (z : Line × List (List ℕ)) → account_in words ≡ Ok z → z.1 ≡ [] → Took AccountWord words z.0
unfolding account_in
account_takes words z e none =
    let a = bind_ok (word_in words) _ z e in
    let b = bind_ok (word_in a.0.1) _ z a.2 in
    let c = bind_ok (word_in b.0.1) _ z b.2 in
    let p = word_takes words a.0 a.1 in
    let q = word_takes a.0.1 b.0 b.1 in
    let r = word_takes b.0.1 c.0 c.1 in
    let account : AccountOf = record { name = a.0.0; password = b.0.0; number = c.0.0 } in
    let last = at_end z (Account account) c.0.1 c.2 none in
    took AccountWord words _ _ z.0 (ends_on a.0.0 words a.0.1 _ p.0 p.1 (ends_on b.0.0 a.0.1 b.0.1 _ q.0 q.1 (ends_on c.0.0 b.0.1 c.0.1 [] r.0 r.1 last.1))) last.0 refl

handset_takes : (words : List (List ℕ)) (z : Line × List (List ℕ)) → handset_in words ≡ Ok z → z.1 ≡ [] → Took HandsetWord words z.0
unfolding handset_in
handset_takes words z e none =
    let a = bind_ok (word_in words) _ z e in
    let b = bind_ok (field_in number_of a.0.1) _ z a.2 in
    let p = word_takes words a.0 a.1 in
    let q = field_takes number_of a.0.1 b.0 b.1 in
    let handset : HandsetSetup = record { number = a.0.0; slots = b.0.0 } in
    let last = at_end z (Handset handset) b.0.1 b.2 none in
    took HandsetWord words _ _ z.0 (ends_on a.0.0 words a.0.1 _ p.0 p.1 (ends_on q.word a.0.1 b.0.1 [] q.words_are q.good last.1)) last.0 (q.word, (refl, q.value))

restart_takes : (words : List (List ℕ)) (z : Line × List (List ℕ)) → restart_in words ≡ Ok z → z.1 ≡ [] → Took RestartWord words z.0
unfolding restart_in
restart_takes words z e none =
    let a = bind_ok (field_in side_of words) _ z e in
    let p = field_takes side_of words a.0 a.1 in
    let last = at_end z (Event (Restart a.0.0)) a.0.1 a.2 none in
    took RestartWord words _ _ z.0 (ends_on p.word words a.0.1 [] p.words_are p.good last.1) last.0 (p.word, (refl, side_takes p.word a.0.0 p.value))

stopped_takes : (words : List (List ℕ)) (z : Line × List (List ℕ)) → stopped_in words ≡ Ok z → z.1 ≡ [] → Took StoppedWord words z.0
unfolding stopped_in
stopped_takes words z e none =
    let a = bind_ok (field_in stop_of words) _ z e in
    let b = bind_ok (act_in a.0.1) _ z a.2 in
    let p = field_takes stop_of words a.0 a.1 in
    let last = at_end z (Event (Stopped a.0.0 b.0.0)) b.0.1 b.2 none in
    let h = act_takes a.0.1 b.0 b.1 last.1.0 in
    let stop : keyword_text StoppedWord ∷ p.word ∷ a.0.1 ≡ keyword_text StoppedWord ∷ stop_text a.0.0 ∷ a.0.1 = ap (λ (w : List ℕ). keyword_text StoppedWord ∷ w ∷ a.0.1) (stop_takes p.word a.0.0 p.value) in
    took StoppedWord words _ _ z.0 (ends_on p.word words a.0.1 a.0.1 p.words_are p.good (refl, h.0)) last.0 (a.0.1, (stop, h.1))

whole_takes : (o : Option Keyword) (words : List (List ℕ)) (z : Line × List (List ℕ)) → whole_in o words ≡ Ok z → z.1 ≡ [] → (k : Keyword) × ((o ≡ Some k) × Took k words z.0)
unfolding whole_in
whole_takes o words z e none =
    let a = bind_ok (act_of o words) _ z e in
    let last = at_end z (Event (Whole a.0.0)) a.0.1 a.2 none in
    let h = act_of_takes o words a.0 a.1 last.1.0 in
    (h.0, (h.1.0, (h.1.1.0, subst (λ d. Says (keyword_text h.0 ∷ words) d) last.0 h.1.1.1)))

line_of_takes : (o : Option Keyword) (words : List (List ℕ)) (z : Line × List (List ℕ)) → line_of o words ≡ Ok z → z.1 ≡ [] → (k : Keyword) × ((o ≡ Some k) × Took k words z.0)
line_of_takes (Some StartWord) words z e none = (StartWord, (refl, start_takes words z e none))
line_of_takes (Some CentreWord) words z e none = (CentreWord, (refl, centre_takes words z e none))
line_of_takes (Some AccountWord) words z e none = (AccountWord, (refl, account_takes words z e none))
line_of_takes (Some HandsetWord) words z e none = (HandsetWord, (refl, handset_takes words z e none))
line_of_takes (Some RestartWord) words z e none = (RestartWord, (refl, restart_takes words z e none))
line_of_takes (Some StoppedWord) words z e none = (StoppedWord, (refl, stopped_takes words z e none))
line_of_takes o words z e none = whole_takes o words z e none

done_takes : (words : List (List ℕ)) (x : Unit {0}) → done_in words ≡ Ok x → words ≡ []
done_takes [] x e = refl
done_takes (word ∷ words) x e = absurd (cc e)

pub line_takes : (octets : List ℕ) (line : Line) → line_at octets ≡ Ok line → IsLine octets line
unfolding line_at
line_takes octets line e =
    let f = bind_ok (only_if (nat_le (length octets) longest_line) BadLine) _ line e in
    let a = bind_ok (word_in (words_of octets)) _ line f.2 in
    let b = bind_ok (line_of (keyword_of a.0.0) a.0.1) _ line a.2 in
    let d = bind_ok (done_in b.0.1) _ line b.2 in
    let same : b.0.0 ≡ line = cc d.2 in
    let p = word_takes (words_of octets) a.0 a.1 in
    let h = line_of_takes (keyword_of a.0.0) a.0.1 b.0 b.1 (done_takes b.0.1 d.0 d.1) in
    let k : a.0.0 ≡ keyword_text h.0 = keyword_takes a.0.0 h.0 h.1.0 in
    let all : words_of octets ≡ keyword_text h.0 ∷ a.0.1 = p.0 ∙ ap (λ (w : List ℕ). w ∷ a.0.1) k in (
      leb-true (length octets) longest_line (passes (nat_le (length octets) longest_line) BadLine f.0 f.1),
      (keyword_text h.0 ∷ a.0.1, (all, (keyword_good h.0, h.1.1.0), subst (λ l. Says (keyword_text h.0 ∷ a.0.1) l) same h.1.1.1)),
    )

-- ---- what is read again

-- what stands behind the keyword
abbrev behind : List (List ℕ) → Result (Line × List (List ℕ)) LineFault
behind words = word_in words >>= (λ k. line_of (keyword_of k.0) k.1)

abbrev Again : List (List ℕ) → Line → Type 0
Again words line = AreWords words → behind words ≡ Ok (line, [])

from : (words fields : List (List ℕ)) (line : Line) → words ≡ fields → Again fields line → Again words line
from words fields line e again = subst (λ l. Again l line) (sym e) again

start_again : (second : List ℕ) (start : ℕ) → number_of second ≡ Ok start → Again (keyword_text StartWord ∷ second ∷ []) (Start start)
unfolding start_in
start_again second start n w = rw (keyword_again StartWord, field_again number_of second [] start w.1.0 n) refl

centre_again : (number : List ℕ) → Again (keyword_text CentreWord ∷ number ∷ []) (Centre number)
unfolding centre_in
centre_again number w = rw (keyword_again CentreWord, word_again number [] w.1.0) refl

account_again : (a : AccountOf) → Again (keyword_text AccountWord ∷ a.name ∷ a.password ∷ a.number ∷ []) (Account a)
unfolding account_in
account_again a w =
    rw (keyword_again AccountWord, word_again a.name (a.password ∷ a.number ∷ []) w.1.0, word_again a.password (a.number ∷ []) w.1.1.0, word_again a.number [] w.1.1.1.0) refl

handset_again : (h : HandsetSetup) (slots : List ℕ) → number_of slots ≡ Ok h.slots → Again (keyword_text HandsetWord ∷ h.number ∷ slots ∷ []) (Handset h)
unfolding handset_in
handset_again h slots n w = rw (keyword_again HandsetWord, word_again h.number (slots ∷ []) w.1.0, field_again number_of slots [] h.slots w.1.1.0 n) refl

restart_again : (of : List ℕ) (side : EventSide) → side_of of ≡ Ok side → Again (keyword_text RestartWord ∷ of ∷ []) (Event (Restart side))
unfolding restart_in
restart_again of side s w = rw (keyword_again RestartWord, field_again side_of of [] side w.1.0 s) refl

stopped_again : (stop : StopPoint) (rest : List (List ℕ)) (act : Act) → IsAct rest act → Again (keyword_text StoppedWord ∷ stop_text stop ∷ rest) (Event (Stopped stop act))
unfolding stopped_in
stopped_again stop rest act h w =
    rw (keyword_again StoppedWord, field_again stop_of (stop_text stop) rest stop w.1.0 (stop_again stop), act_again rest act h w.1.1) refl

whole_of : (o : Option Keyword) (words : List (List ℕ)) (act : Act) → act_of o words ≡ Ok (act, []) → line_of o words ≡ Ok (Event (Whole act), [])
unfolding whole_in
whole_of (Some StartWord) words act e = absurd (cc e)
whole_of (Some CentreWord) words act e = absurd (cc e)
whole_of (Some AccountWord) words act e = absurd (cc e)
whole_of (Some HandsetWord) words act e = absurd (cc e)
whole_of (Some RestartWord) words act e = absurd (cc e)
whole_of (Some StoppedWord) words act e = absurd (cc e)
whole_of None words act e = absurd (cc e)
whole_of o words act e = rw e refl

whole_again : (words : List (List ℕ)) (act : Act) → IsAct words act → Again words (Event (Whole act))
unfolding act_in
whole_again words act h w =
    let a = bind_ok (word_in words) _ (act, []) (act_again words act h w) in
    rw a.1 (whole_of (keyword_of a.0.0) a.0.1 act a.2)

says_again : (words : List (List ℕ)) (line : Line) → Says words line → Again words line
says_again words (Start start) h = from words _ (Start start) h.1.0 (start_again h.0 start h.1.1)
says_again words (Centre number) h = from words _ (Centre number) h (centre_again number)
says_again words (Account a) h = from words _ (Account a) h (account_again a)
says_again words (Handset a) h = from words _ (Handset a) h.1.0 (handset_again a h.0 h.1.1)
says_again words (Event (Whole act)) h = whole_again words act h
says_again words (Event (Stopped stop act)) h = from words _ (Event (Stopped stop act)) h.1.0 (stopped_again stop h.0 act h.1.1)
says_again words (Event (Restart side)) h = from words _ (Event (Restart side)) h.1.0 (restart_again h.0 side (side_again h.0 side h.1.1))

pub line_again : (octets : List ℕ) (line : Line) → IsLine octets line → line_at octets ≡ Ok line
unfolding line_at
line_again octets line (fits, (words, (e, good, says))) =
    let size : nat_le (length octets) longest_line ≡ true = le-leb (length octets) longest_line fits in
    let h = says_again words line says good in
    let a = bind_ok (word_in words) _ (line, []) h in
    rw (size, e, a.1, a.2) refl
