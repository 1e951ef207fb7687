-- Acts: the words that a reading took are those of the act, and those of an act are read as it.
use Rattle.std.proofs.Common.{◌≡◌, ℕ, Bool, true, List, [], ◌∷◌, Option, Some, Result, Ok, refl, sym, ap, ◌∙◌, subst, inl, inr, ⊎_elim}
use Rattle.std.specs.Prelude.{codes}
use Rattle.sms_base.proofs.Steps.{bind_ok}
use Rattle.sms_script.specs.Lines.{is_word}
use Rattle.sms_script.specs.Keywords.{keyword_text, keyword_of}
use Rattle.sms_script.specs.Hexadecimal.{octet_of}
use Rattle.sms_script.specs.Numbers.{number_of, small_of, flag_of, moment_of}
use Rattle.sms_script.specs.ScriptReading.{word_in, field_in, validity_of, body_of, text_in, side_of, submission_in, submit_in, urgent_in, query_in, cancel_in, write_in, delete_in, discard_in, deliver_in, tick_in, act_of, act_in}
use Rattle.sms_script.specs.ScriptGrammar.{IsSubmission, IsAct, AreWords}
use Rattle.sms_script.specs.declared.event.Act.{Act}
use Rattle.sms_script.specs.declared.event.Act.TheVariants.{Submit, Query, Cancel, Write, Delete, Discard, Deliver, Tick}
use Rattle.sms_script.specs.declared.event.EventSide.{EventSide}
use Rattle.sms_script.specs.declared.event.Submission.{Submission}
use Rattle.sms_script.specs.declared.fault.LineFault.{LineFault}
use Rattle.sms_script.specs.declared.keyword.Keyword.{Keyword}
use Rattle.sms_script.specs.declared.keyword.Keyword.TheVariants.{Submit as SubmitWord, Urgent as UrgentWord, Query as QueryWord, Cancel as CancelWord, Write as WriteWord, Delete as DeleteWord, Discard as DiscardWord, Deliver as DeliverWord, Tick as TickWord}
use Rattle.sms_script.proofs.WordLaws.{word_takes, word_again, field_takes, field_again, validity_takes, validity_again, body_takes, body_again, text_takes, text_again, side_takes, side_again, keyword_takes, keyword_again}

-- ---- what a reading took

-- the words are these, each of them a word
abbrev pub Ends : List (List ℕ) → List (List ℕ) → Type 0
Ends words fields = (words ≡ fields) × AreWords fields

pub ends_on : (word : List ℕ) (words rest fields : List (List ℕ)) → words ≡ word ∷ rest → is_word word ≡ true → Ends rest fields → Ends words (word ∷ fields)
ends_on word words rest fields e good h = (e ∙ ap (λ (l : List (List ℕ)). word ∷ l) h.0, (good, h.1))

-- behind a keyword they say the act
abbrev pub Took : Keyword → List (List ℕ) → Act → Type 0
Took k words act = AreWords words × IsAct (keyword_text k ∷ words) act

took : (k : Keyword) (words fields : List (List ℕ)) (act done : Act) → Ends words fields → act ≡ done → IsAct (keyword_text k ∷ fields) act → Took k words done
took k words fields act done h is says =
    (subst (λ l. AreWords l) (sym h.0) h.1, subst (λ l. IsAct (keyword_text k ∷ l) done) (sym h.0) (subst (λ d. IsAct (keyword_text k ∷ fields) d) is says))

at_end : (z : Act × List (List ℕ)) (act : Act) (rest : List (List ℕ)) → (let r : Result (Act × List (List ℕ)) LineFault = Ok (act, rest) in r ≡ Ok z) → z.1 ≡ [] → (act ≡ z.0) × Ends rest []
at_end z act rest e none =
    let same : (act, rest) ≡ z = cc e in
    (ap (λ (y : Act × List (List ℕ)). y.0) same, (ap (λ (y : Act × List (List ℕ)). y.1) same ∙ none, tt))

record IsSubmitted (name : List ℕ) (priority : ℕ) (words : List (List ℕ)) (act : Act) : Type 0 where
  fields : List (List ℕ)
  ends : Ends words fields
  submission : Submission
  is : Submit submission ≡ act
  name_is : submission.name ≡ name
  priority_is : submission.priority ≡ priority
  says : IsSubmission fields submission

submission_takes : (name : List ℕ) (priority : ℕ) (words : List (List ℕ)) (z : Act × List (List ℕ)) → submission_in name priority words ≡ Ok z → z.1 ≡ [] → IsSubmitted name priority words z.0
unfolding submission_in
submission_takes name priority words z e none =
    let a = bind_ok (word_in words) _ z e in
    let b = bind_ok (field_in (small_of 255) a.0.1) _ z a.2 in
    let c = bind_ok (field_in octet_of b.0.1) _ z b.2 in
    let d = bind_ok (field_in (small_of 255) c.0.1) _ z c.2 in
    let v = bind_ok (field_in validity_of d.0.1) _ z d.2 in
    let m = bind_ok (field_in body_of v.0.1) _ z v.2 in
    let pa = word_takes words a.0 a.1 in
    let pb = field_takes (small_of 255) a.0.1 b.0 b.1 in
    let pc = field_takes octet_of b.0.1 c.0 c.1 in
    let pd = field_takes (small_of 255) c.0.1 d.0 d.1 in
    let pv = field_takes validity_of d.0.1 v.0 v.1 in
    let pm = field_takes body_of v.0.1 m.0 m.1 in
    let s : Submission = record { name = name; to = a.0.0; coding = b.0.0; esm_class = c.0.0; registered_delivery = d.0.0; validity = v.0.0; message = m.0.0; priority = priority } in
    let last = at_end z (Submit s) m.0.1 m.2 none in
    let hm = ends_on pm.word v.0.1 m.0.1 [] pm.words_are pm.good last.1 in
    let hv = ends_on pv.word d.0.1 v.0.1 _ pv.words_are pv.good hm in
    let hd = ends_on pd.word c.0.1 d.0.1 _ pd.words_are pd.good hv in
    let hc = ends_on pc.word b.0.1 c.0.1 _ pc.words_are pc.good hd in
    let hb = ends_on pb.word a.0.1 b.0.1 _ pb.words_are pb.good hc in
    let ha = ends_on a.0.0 words a.0.1 _ pa.0 pa.1 hb in
    record {
      fields = a.0.0 ∷ pb.word ∷ pc.word ∷ pd.word ∷ pv.word ∷ pm.word ∷ [];
      ends = ha;
      submission = s;
      is = last.0;
      name_is = refl;
      priority_is = refl;
      says = (pb.word, pc.word, pd.word, pv.word, pm.word, (refl, pb.value, pc.value, pd.value, validity_takes pv.word v.0.0 pv.value, body_takes pm.word m.0.0 pm.value));
    }

submit_takes : (words : List (List ℕ)) (z : Act × List (List ℕ)) → submit_in words ≡ Ok z → z.1 ≡ [] → Took SubmitWord words z.0
unfolding submit_in
submit_takes words z e none =
    let a = bind_ok (word_in words) _ z e in
    let p = word_takes words a.0 a.1 in
    let h = submission_takes a.0.0 0 a.0.1 z a.2 none in
    let ends = ends_on a.0.0 words a.0.1 h.fields p.0 p.1 h.ends in
    let name : keyword_text SubmitWord ∷ a.0.0 ∷ h.fields ≡ keyword_text SubmitWord ∷ h.submission.name ∷ h.fields = ap (λ (n : List ℕ). keyword_text SubmitWord ∷ n ∷ h.fields) (sym h.name_is) in
    took SubmitWord words (a.0.0 ∷ h.fields) (Submit h.submission) z.0 ends h.is (inl (h.fields, (name, h.priority_is, h.says)))

urgent_takes : (words : List (List ℕ)) (z : Act × List (List ℕ)) → urgent_in words ≡ Ok z → z.1 ≡ [] → Took UrgentWord words z.0
unfolding urgent_in
urgent_takes words z e none =
    let a = bind_ok (word_in words) _ z e in
    let b = bind_ok (field_in (small_of 3) a.0.1) _ z a.2 in
    let p = word_takes words a.0 a.1 in
    let q = field_takes (small_of 3) a.0.1 b.0 b.1 in
    let h = submission_takes a.0.0 b.0.0 b.0.1 z b.2 none in
    let ends = ends_on a.0.0 words a.0.1 _ p.0 p.1 (ends_on q.word a.0.1 b.0.1 h.fields q.words_are q.good h.ends) in
    let name : keyword_text UrgentWord ∷ a.0.0 ∷ q.word ∷ h.fields ≡ keyword_text UrgentWord ∷ h.submission.name ∷ q.word ∷ h.fields = ap (λ (n : List ℕ). keyword_text UrgentWord ∷ n ∷ q.word ∷ h.fields) (sym h.name_is) in
    took UrgentWord words (a.0.0 ∷ q.word ∷ h.fields) (Submit h.submission) z.0 ends h.is
    (inr (q.word, h.fields, (name, subst (λ n. small_of 3 q.word ≡ Ok n) (sym h.priority_is) q.value, h.says)))

query_takes : (words : List (List ℕ)) (z : Act × List (List ℕ)) → query_in words ≡ Ok z → z.1 ≡ [] → Took QueryWord words z.0
unfolding query_in
query_takes words z e none =
    let a = bind_ok (word_in words) _ z e in
    let b = bind_ok (word_in a.0.1) _ z a.2 in
    let p = word_takes words a.0 a.1 in
    let q = word_takes a.0.1 b.0 b.1 in
    let last = at_end z (Query a.0.0 b.0.0) b.0.1 b.2 none in
    took QueryWord words _ _ z.0 (ends_on a.0.0 words a.0.1 _ p.0 p.1 (ends_on b.0.0 a.0.1 b.0.1 [] q.0 q.1 last.1)) last.0 refl

cancel_takes : (words : List (List ℕ)) (z : Act × List (List ℕ)) → cancel_in words ≡ Ok z → z.1 ≡ [] → Took CancelWord words z.0
unfolding cancel_in
cancel_takes words z e none =
    let a = bind_ok (word_in words) _ z e in
    let b = bind_ok (word_in a.0.1) _ z a.2 in
    let p = word_takes words a.0 a.1 in
    let q = word_takes a.0.1 b.0 b.1 in
    let last = at_end z (Cancel a.0.0 b.0.0) b.0.1 b.2 none in
    took CancelWord words _ _ z.0 (ends_on a.0.0 words a.0.1 _ p.0 p.1 (ends_on b.0.0 a.0.1 b.0.1 [] q.0 q.1 last.1)) last.0 refl

write_takes : (words : List (List ℕ)) (z : Act × List (List ℕ)) → write_in words ≡ Ok z → z.1 ≡ [] → Took WriteWord words z.0
unfolding write_in
write_takes words z e none =
    let a = bind_ok (word_in words) _ z e in
    let b = bind_ok (word_in a.0.1) _ z a.2 in
    let c = bind_ok (field_in flag_of b.0.1) _ z b.2 in
    let d = bind_ok (field_in text_in c.0.1) _ z c.2 in
    let p = word_takes words a.0 a.1 in
    let q = word_takes a.0.1 b.0 b.1 in
    let r = field_takes flag_of b.0.1 c.0 c.1 in
    let s = field_takes text_in c.0.1 d.0 d.1 in
    let last = at_end z (Write a.0.0 b.0.0 c.0.0 d.0.0) d.0.1 d.2 none in
    took WriteWord words _ _ z.0
    (ends_on a.0.0 words a.0.1 _ p.0 p.1 (ends_on b.0.0 a.0.1 b.0.1 _ q.0 q.1 (ends_on r.word b.0.1 c.0.1 _ r.words_are r.good (ends_on s.word c.0.1 d.0.1 [] s.words_are s.good last.1))))
    last.0 (r.word, s.word, (refl, r.value, text_takes s.word d.0.0 s.value))

delete_takes : (words : List (List ℕ)) (z : Act × List (List ℕ)) → delete_in words ≡ Ok z → z.1 ≡ [] → Took DeleteWord words z.0
unfolding delete_in
delete_takes words z e none =
    let a = bind_ok (word_in words) _ z e in
    let b = bind_ok (field_in number_of a.0.1) _ z a.2 in
    let p = word_takes words a.0 a.1 in
    let q = field_takes number_of a.0.1 b.0 b.1 in
    let last = at_end z (Delete a.0.0 b.0.0) b.0.1 b.2 none in
    took DeleteWord words _ _ z.0 (ends_on a.0.0 words a.0.1 _ p.0 p.1 (ends_on q.word a.0.1 b.0.1 [] q.words_are q.good last.1)) last.0 (q.word, (refl, q.value))

discard_takes : (words : List (List ℕ)) (z : Act × List (List ℕ)) → discard_in words ≡ Ok z → z.1 ≡ [] → Took DiscardWord words z.0
unfolding discard_in
discard_takes words z e none =
    let a = bind_ok (word_in words) _ z e in
    let b = bind_ok (field_in number_of a.0.1) _ z a.2 in
    let p = word_takes words a.0 a.1 in
    let q = field_takes number_of a.0.1 b.0 b.1 in
    let last = at_end z (Discard a.0.0 b.0.0) b.0.1 b.2 none in
    took DiscardWord words _ _ z.0 (ends_on a.0.0 words a.0.1 _ p.0 p.1 (ends_on q.word a.0.1 b.0.1 [] q.words_are q.good last.1)) last.0 (q.word, (refl, q.value))

deliver_takes : (words : List (List ℕ)) (z : Act × List (List ℕ)) → deliver_in words ≡ Ok z → z.1 ≡ [] → Took DeliverWord words z.0
unfolding deliver_in
deliver_takes words z e none =
    let a = bind_ok (field_in number_of words) _ z e in
    let p = field_takes number_of words a.0 a.1 in
    let last = at_end z (Deliver a.0.0) a.0.1 a.2 none in
    took DeliverWord words _ _ z.0 (ends_on p.word words a.0.1 [] p.words_are p.good last.1) last.0 (p.word, (refl, p.value))

tick_takes : (words : List (List ℕ)) (z : Act × List (List ℕ)) → tick_in words ≡ Ok z → z.1 ≡ [] → Took TickWord words z.0
unfolding tick_in
tick_takes words z e none =
    let a = bind_ok (field_in side_of words) _ z e in
    let b = bind_ok (field_in moment_of a.0.1) _ z a.2 in
    let p = field_takes side_of words a.0 a.1 in
    let q = field_takes moment_of a.0.1 b.0 b.1 in
    let last = at_end z (Tick a.0.0 b.0.0) b.0.1 b.2 none in
    took TickWord words _ _ z.0 (ends_on p.word words a.0.1 _ p.words_are p.good (ends_on q.word a.0.1 b.0.1 [] q.words_are q.good last.1)) last.0
    (p.word, q.word, (refl, side_takes p.word a.0.0 p.value, q.value))

-- the act of a keyword
pub act_of_takes : (o : Option Keyword) (words : List (List ℕ)) (z : Act × List (List ℕ)) → act_of o words ≡ Ok z → z.1 ≡ [] → (k : Keyword) × ((o ≡ Some k) × Took k words z.0)
act_of_takes (Some SubmitWord) words z e none = (SubmitWord, (refl, submit_takes words z e none))
act_of_takes (Some UrgentWord) words z e none = (UrgentWord, (refl, urgent_takes words z e none))
act_of_takes (Some QueryWord) words z e none = (QueryWord, (refl, query_takes words z e none))
act_of_takes (Some CancelWord) words z e none = (CancelWord, (refl, cancel_takes words z e none))
act_of_takes (Some WriteWord) words z e none = (WriteWord, (refl, write_takes words z e none))
act_of_takes (Some DeleteWord) words z e none = (DeleteWord, (refl, delete_takes words z e none))
act_of_takes (Some DiscardWord) words z e none = (DiscardWord, (refl, discard_takes words z e none))
act_of_takes (Some DeliverWord) words z e none = (DeliverWord, (refl, deliver_takes words z e none))
act_of_takes (Some TickWord) words z e none = (TickWord, (refl, tick_takes words z e none))
act_of_takes o words z e none = absurd (cc e)

pub act_takes : (words : List (List ℕ)) (z : Act × List (List ℕ)) → act_in words ≡ Ok z → z.1 ≡ [] → AreWords words × IsAct words z.0
unfolding act_in
act_takes words z e none =
    let a = bind_ok (word_in words) _ z e in
    let p = word_takes words a.0 a.1 in
    let h = act_of_takes (keyword_of a.0.0) a.0.1 z a.2 none in
    let k : a.0.0 ≡ keyword_text h.0 = keyword_takes a.0.0 h.0 h.1.0 in
    let all : words ≡ keyword_text h.0 ∷ a.0.1 = p.0 ∙ ap (λ (w : List ℕ). w ∷ a.0.1) k in
    (subst (λ l. AreWords l) (sym p.0) (p.1, h.1.1.0), subst (λ l. IsAct l z.0) (sym all) h.1.1.1)

-- ---- what is read again

abbrev Again : List (List ℕ) → Act → Type 0
Again words act = AreWords words → act_in words ≡ Ok (act, [])

from : (words fields : List (List ℕ)) (act : Act) → words ≡ fields → Again fields act → Again words act
from words fields act e again = subst (λ l. Again l act) (sym e) again

submission_again : (s : Submission) (coding esm_class registered_delivery validity message : List ℕ) →
    AreWords (s.to ∷ coding ∷ esm_class ∷ registered_delivery ∷ validity ∷ message ∷ []) →
    small_of 255 coding ≡ Ok s.coding → octet_of esm_class ≡ Ok s.esm_class → small_of 255 registered_delivery ≡ Ok s.registered_delivery →
    validity_of validity ≡ Ok s.validity → body_of message ≡ Ok s.message →
    submission_in s.name s.priority (s.to ∷ coding ∷ esm_class ∷ registered_delivery ∷ validity ∷ message ∷ []) ≡ Ok (Submit s, [])
unfolding submission_in
submission_again s coding esm_class registered_delivery validity message w c e r v m =
    rw (
      word_again s.to (coding ∷ esm_class ∷ registered_delivery ∷ validity ∷ message ∷ []) w.0,
      field_again (small_of 255) coding (esm_class ∷ registered_delivery ∷ validity ∷ message ∷ []) s.coding w.1.0 c,
      field_again octet_of esm_class (registered_delivery ∷ validity ∷ message ∷ []) s.esm_class w.1.1.0 e,
      field_again (small_of 255) registered_delivery (validity ∷ message ∷ []) s.registered_delivery w.1.1.1.0 r,
      field_again validity_of validity (message ∷ []) s.validity w.1.1.1.1.0 v,
      field_again body_of message [] s.message w.1.1.1.1.1.0 m,
    ) refl

submission_read : (fields : List (List ℕ)) (s : Submission) → AreWords fields → IsSubmission fields s → submission_in s.name s.priority fields ≡ Ok (Submit s, [])
submission_read fields s good (coding, esm_class, registered_delivery, validity, message, (e, c, o, r, v, m)) =
    subst (λ l. submission_in s.name s.priority l ≡ Ok (Submit s, [])) (sym e)
    (submission_again s coding esm_class registered_delivery validity message (subst (λ l. AreWords l) e good) c o r (validity_again validity s.validity v) (body_again message s.message m))

submit_again : (s : Submission) (rest : List (List ℕ)) → s.priority ≡ 0 → IsSubmission rest s → Again (keyword_text SubmitWord ∷ s.name ∷ rest) (Submit s)
unfolding act_in submit_in
submit_again s rest p h w =
    rw (keyword_again SubmitWord, word_again s.name rest w.1.0) (subst (λ n. submission_in s.name n rest ≡ Ok (Submit s, [])) p (submission_read rest s w.1.1 h))

urgent_again : (s : Submission) (priority : List ℕ) (rest : List (List ℕ)) → small_of 3 priority ≡ Ok s.priority → IsSubmission rest s → Again (keyword_text UrgentWord ∷ s.name ∷ priority ∷ rest) (Submit s)
unfolding act_in urgent_in
urgent_again s priority rest p h w =
    rw (keyword_again UrgentWord, word_again s.name (priority ∷ rest) w.1.0, field_again (small_of 3) priority rest s.priority w.1.1.0 p) (submission_read rest s w.1.1.1 h)

query_again : (name id : List ℕ) → Again (keyword_text QueryWord ∷ name ∷ id ∷ []) (Query name id)
unfolding act_in query_in
query_again name id w = rw (keyword_again QueryWord, word_again name (id ∷ []) w.1.0, word_again id [] w.1.1.0) refl

cancel_again : (name id : List ℕ) → Again (keyword_text CancelWord ∷ name ∷ id ∷ []) (Cancel name id)
unfolding act_in cancel_in
cancel_again name id w = rw (keyword_again CancelWord, word_again name (id ∷ []) w.1.0, word_again id [] w.1.1.0) refl

write_again : (handset to asked spelling text : List ℕ) (report : Bool) → flag_of asked ≡ Ok report → text_in spelling ≡ Ok text → Again (keyword_text WriteWord ∷ handset ∷ to ∷ asked ∷ spelling ∷ []) (Write handset to report text)
unfolding act_in write_in
write_again handset to asked spelling text report f t w =
    rw (
      keyword_again WriteWord,
      word_again handset (to ∷ asked ∷ spelling ∷ []) w.1.0,
      word_again to (asked ∷ spelling ∷ []) w.1.1.0,
      field_again flag_of asked (spelling ∷ []) report w.1.1.1.0 f,
      field_again text_in spelling [] text w.1.1.1.1.0 t,
    ) refl

delete_again : (handset number : List ℕ) (entry : ℕ) → number_of number ≡ Ok entry → Again (keyword_text DeleteWord ∷ handset ∷ number ∷ []) (Delete handset entry)
unfolding act_in delete_in
delete_again handset number entry n w = rw (keyword_again DeleteWord, word_again handset (number ∷ []) w.1.0, field_again number_of number [] entry w.1.1.0 n) refl

discard_again : (handset number : List ℕ) (entry : ℕ) → number_of number ≡ Ok entry → Again (keyword_text DiscardWord ∷ handset ∷ number ∷ []) (Discard handset entry)
unfolding act_in discard_in
discard_again handset number entry n w = rw (keyword_again DiscardWord, word_again handset (number ∷ []) w.1.0, field_again number_of number [] entry w.1.1.0 n) refl

deliver_again : (number : List ℕ) (frame : ℕ) → number_of number ≡ Ok frame → Again (keyword_text DeliverWord ∷ number ∷ []) (Deliver frame)
unfolding act_in deliver_in
deliver_again number frame n w = rw (keyword_again DeliverWord, field_again number_of number [] frame w.1.0 n) refl

tick_again : (of second : List ℕ) (side : EventSide) (now : ℕ) → side_of of ≡ Ok side → moment_of second ≡ Ok now → Again (keyword_text TickWord ∷ of ∷ second ∷ []) (Tick side now)
unfolding act_in tick_in
tick_again of second side now s m w = rw (keyword_again TickWord, field_again side_of of (second ∷ []) side w.1.0 s, field_again moment_of second [] now w.1.1.0 m) refl

pub act_again : (words : List (List ℕ)) (act : Act) → IsAct words act → AreWords words → act_in words ≡ Ok (act, [])
act_again words (Submit s) h =
    ⊎_elim
    (λ (p : (rest : List (List ℕ)) × ((words ≡ codes "submit" ∷ s.name ∷ rest) × (s.priority ≡ 0) × IsSubmission rest s)).
    from words (codes "submit" ∷ s.name ∷ p.0) (Submit s) p.1.0 (submit_again s p.0 p.1.1 p.1.2))
    (λ (q : (priority : List ℕ) × (rest : List (List ℕ)) × ((words ≡ codes "urgent" ∷ s.name ∷ priority ∷ rest) × (small_of 3 priority ≡ Ok s.priority) × IsSubmission rest s)).
    from words (codes "urgent" ∷ s.name ∷ q.0 ∷ q.1) (Submit s) q.2.0 (urgent_again s q.0 q.1 q.2.1 q.2.2))
    h
act_again words (Query name id) h = from words _ (Query name id) h (query_again name id)
act_again words (Cancel name id) h = from words _ (Cancel name id) h (cancel_again name id)
act_again words (Write handset to report text) h = from words _ (Write handset to report text) h.2.0 (write_again handset to h.0 h.1 text report h.2.1 (text_again h.1 text h.2.2))
act_again words (Delete handset entry) h = from words _ (Delete handset entry) h.1.0 (delete_again handset h.0 entry h.1.1)
act_again words (Discard handset entry) h = from words _ (Discard handset entry) h.1.0 (discard_again handset h.0 entry h.1.1)
act_again words (Deliver frame) h = from words _ (Deliver frame) h.1.0 (deliver_again h.0 frame h.1.1)
act_again words (Tick side now) h = from words _ (Tick side now) h.2.0 (tick_again h.0 h.1 side now (side_again h.0 side h.2.1) h.2.2)
