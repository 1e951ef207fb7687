-- Words and fields: what a reading took stands there, and what stands there is taken.
use Rattle.std.proofs.Common.{◌≡◌, ℕ, Bool, true, false, cond, List, [], ◌∷◌, Some, Result, Ok, Err, refl, sym, ap, subst, inl, inr, ⊎_elim}
use Rattle.std.specs.Prelude.{codes, bytes_eq}
use Rattle.std.specs.List.{find}
use Rattle.std.specs.Str.{is_utf8}
use Rattle.std.proofs.lemmas.Slice.Eq.{bytes_eq-Decides}
use Rattle.sms_base.proofs.Steps.{bind_ok}
use Rattle.sms_base.proofs.OctetLaws.{differ, same_octets}
use Rattle.sms_script.specs.Lines.{is_word}
use Rattle.sms_script.specs.Keywords.{keyword_text, keywords, keyword_of}
use Rattle.sms_script.specs.Hexadecimal.{octets_of, text_of}
use Rattle.sms_script.specs.ScriptReading.{word_in, field_in, validity_of, body_of, text_in, side_of, stop_of}
use Rattle.sms_script.specs.ScriptGrammar.{IsValidity, IsBody, IsText, IsSide, stop_text}
use Rattle.sms_script.specs.declared.event.EventSide.{EventSide}
use Rattle.sms_script.specs.declared.event.EventSide.TheVariants.{Centre, Handset}
use Rattle.sms_script.specs.declared.event.StopPoint.{StopPoint}
use Rattle.sms_script.specs.declared.event.StopPoint.TheVariants.{Before, After}
use Rattle.sms_script.specs.declared.fault.LineFault.{LineFault}
use Rattle.sms_script.specs.declared.fault.LineFault.TheVariants.{BadLine}
use Rattle.sms_script.specs.declared.keyword.Keyword.{Keyword}
use Rattle.sms_script.specs.declared.keyword.Keyword.TheVariants.{Start}

-- ---- words

pub word_takes : (words : List (List ℕ)) (x : List ℕ × List (List ℕ)) → word_in words ≡ Ok x → (words ≡ x.0 ∷ x.1) × (is_word x.0 ≡ true)
word_takes [] x e = absurd (cc)
word_takes (word ∷ words) x e = by (is_word word) refl e where
  by : (b : Bool) → is_word word ≡ b → cond b (Ok (word, words)) (Err BadLine) ≡ Ok x → (word ∷ words ≡ x.0 ∷ x.1) × (is_word x.0 ≡ true)
  by true w e = let same : (word, words) ≡ x = cc in (ap (λ (y : List ℕ × List (List ℕ)). y.0 ∷ y.1) same, subst (λ (y : List ℕ × List (List ℕ)). is_word y.0 ≡ true) same w)
  by false w e = absurd (cc)

pub word_again : (word : List ℕ) (words : List (List ℕ)) → is_word word ≡ true → word_in (word ∷ words) ≡ Ok (word, words)
word_again word words w = rw w refl

-- a field is a word that is read so
pub record IsField {X : Type 0} (read : List ℕ → Result X LineFault) (words : List (List ℕ)) (x : X × List (List ℕ)) : Type 0 where
  pub word : List ℕ
  pub words_are : words ≡ word ∷ x.1
  pub good : is_word word ≡ true
  pub value : read word ≡ Ok x.0

pub field_takes : {X : Type 0} (read : List ℕ → Result X LineFault) (words : List (List ℕ)) (x : X × List (List ℕ)) → field_in read words ≡ Ok x → IsField read words x
field_takes {X} read words x e =
    let a = bind_ok (word_in words) _ x e in
    let b = bind_ok (read a.0.0) _ x a.2 in
    let same : (b.0, a.0.1) ≡ x = cc b.2 in
    let w = word_takes words a.0 a.1 in
    subst (λ (y : X × List (List ℕ)). IsField read words y) same (record { word = a.0.0; words_are = w.0; good = w.1; value = b.1 })

pub field_again : {X : Type 0} (read : List ℕ → Result X LineFault) (word : List ℕ) (words : List (List ℕ)) (x : X) → is_word word ≡ true → read word ≡ Ok x → field_in read (word ∷ words) ≡ Ok (x, words)
field_again read word words x w e = rw w (rw e refl)

-- ---- what words stand for

equal_octets : (a b : List ℕ) → a ≡ b → bytes_eq a b ≡ true
equal_octets a b e = (bytes_eq-Decides a b).1 e

other_octets : (a b : List ℕ) → bytes_eq a b ≡ false → ¬ (a ≡ b)
other_octets a b e p = absurd (cc (equal_octets a b p))

pub validity_takes : (word validity : List ℕ) → validity_of word ≡ Ok validity → IsValidity word validity
validity_takes word validity e = by (bytes_eq word (codes "-")) refl e where
  by : (b : Bool) → bytes_eq word (codes "-") ≡ b → (let r : Result (List ℕ) LineFault = cond b (Ok []) (Ok word) in r ≡ Ok validity) → IsValidity word validity
  by true t e = inl (same_octets word (codes "-") t, cc e)
  by false f e = inr (other_octets word (codes "-") f, cc e)

pub validity_again : (word validity : List ℕ) → IsValidity word validity → validity_of word ≡ Ok validity
validity_again word validity h =
    ⊎_elim
    (λ (p : (word ≡ codes "-") × (validity ≡ [])). rw (equal_octets word (codes "-") p.0, p.1) refl)
    (λ (q : ¬ (word ≡ codes "-") × (validity ≡ word)). rw (differ word (codes "-") q.0, q.1) refl)
    h

pub body_takes : (word octets : List ℕ) → body_of word ≡ Ok octets → IsBody word octets
body_takes word octets e = by (bytes_eq word (codes "-")) refl e where
  by : (b : Bool) → bytes_eq word (codes "-") ≡ b → cond b (Ok []) (octets_of word) ≡ Ok octets → IsBody word octets
  by true t e = inl (same_octets word (codes "-") t, cc e)
  by false f e = inr e

-- `-` spells no octets, since it is one digit
dash_spells_none : (octets : List ℕ) → ¬ (octets_of (codes "-") ≡ Ok octets)
dash_spells_none octets e = cc e

pub body_again : (word octets : List ℕ) → IsBody word octets → body_of word ≡ Ok octets
body_again word octets h =
    ⊎_elim
    (λ (p : (word ≡ codes "-") × (octets ≡ [])). rw (equal_octets word (codes "-") p.0, p.1) refl)
    (λ (q : octets_of word ≡ Ok octets).
    rw (differ word (codes "-") (λ d. dash_spells_none octets (subst (λ w. octets_of w ≡ Ok octets) d q))) q)
    h

text_is : (octets text : List ℕ) → text_of octets ≡ Ok text → octets ≡ text
text_is octets text e = by (is_utf8 octets) e where
  by : (b : Bool) → cond b (Ok octets) (Err BadLine) ≡ Ok text → octets ≡ text
  by true e = cc
  by false e = absurd (cc)

pub text_takes : (word text : List ℕ) → text_in word ≡ Ok text → IsText word text
text_takes word text e =
    let a = bind_ok (body_of word) _ text e in
    let same = text_is a.0 text a.2 in
    (subst (λ t. IsBody word t) same (body_takes word a.0 a.1), subst (λ t. text_of t ≡ Ok text) same a.2)

pub text_again : (word text : List ℕ) → IsText word text → text_in word ≡ Ok text
text_again word text h = rw (body_again word text h.0) h.1

pub side_takes : (word : List ℕ) (side : EventSide) → side_of word ≡ Ok side → IsSide word side
side_takes word side e = by (bytes_eq word (codes "centre")) refl e where
  by : (b : Bool) → bytes_eq word (codes "centre") ≡ b → (let r : Result EventSide LineFault = cond b (Ok Centre) (Ok (Handset word)) in r ≡ Ok side) → IsSide word side
  by true t e = let same : Centre ≡ side = cc e in subst (λ s. IsSide word s) same (same_octets word (codes "centre") t)
  by false f e = let same : Handset word ≡ side = cc e in subst (λ s. IsSide word s) same (other_octets word (codes "centre") f, refl)

pub side_again : (word : List ℕ) (side : EventSide) → IsSide word side → side_of word ≡ Ok side
side_again word Centre h = rw (equal_octets word (codes "centre") h) refl
side_again word (Handset number) h = rw (differ word (codes "centre") h.0, h.1) refl

pub stop_takes : (word : List ℕ) (stop : StopPoint) → stop_of word ≡ Ok stop → word ≡ stop_text stop
stop_takes word stop e = by (bytes_eq word (codes "before")) (bytes_eq word (codes "after")) refl refl e where
  by : (b a : Bool) → bytes_eq word (codes "before") ≡ b → bytes_eq word (codes "after") ≡ a → cond b (Ok Before) (cond a (Ok After) (Err BadLine)) ≡ Ok stop → word ≡ stop_text stop
  by true a t u e = let same : Before ≡ stop = cc e in subst (λ s. word ≡ stop_text s) same (same_octets word (codes "before") t)
  by false true t u e = let same : After ≡ stop = cc e in subst (λ s. word ≡ stop_text s) same (same_octets word (codes "after") u)
  by false false t u e = absurd (cc)

pub stop_again : (stop : StopPoint) → stop_of (stop_text stop) ≡ Ok stop
stop_again Before = refl
stop_again After = refl

-- ---- keywords

found_passes : (p : Keyword → Bool) (ks : List Keyword) (k : Keyword) → find p ks ≡ Some k → p k ≡ true
found_passes p [] k e = absurd (cc)
found_passes p (x ∷ ks) k e = by (p x) refl e (found_passes p ks k) where
  by : (b : Bool) → p x ≡ b → cond b (Some x) (find p ks) ≡ Some k → (find p ks ≡ Some k → p k ≡ true) → p k ≡ true
  by true t e again = let same : x ≡ k = cc in subst (λ y. p y ≡ true) same t
  by false f e again = again e

pub keyword_takes : (word : List ℕ) (k : Keyword) → keyword_of word ≡ Some k → word ≡ keyword_text k
unfolding keyword_of
keyword_takes word k e = sym (same_octets (keyword_text k) word (found_passes (λ keyword. bytes_eq (keyword_text keyword) word) keywords k e))

pub keyword_again : (k : Keyword) → keyword_of (keyword_text k) ≡ Some k
unfolding keyword_of
keyword_again Start = refl
keyword_again _ = refl

-- a keyword is a word
pub keyword_good : (k : Keyword) → is_word (keyword_text k) ≡ true
keyword_good Start = refl
keyword_good _ = refl
