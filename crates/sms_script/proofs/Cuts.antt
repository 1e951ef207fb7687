-- Lines and words are the pieces between their marks, and nothing else is.
use Rattle.std.proofs.Common.{◌≡◌, ◌≢◌, ℕ, Bool, true, false, cond, eqb, List, [], ◌∷◌, ◌++◌, refl, sym, ap, ◌∙◌, eqb-true}
use Rattle.std.proofs.lemmas.List.{append_assoc}
use Rattle.sms_script.specs.Lines.{onto, lines_of, words_of, spaced, ended, Without, AllWithout, front, words_behind, behind}
use Rattle.sms_script.proofs.Pieces.{words_are}

-- ---- words

-- a space between no words and others, and an octet before the first word
spaced_later : (words : List (List ℕ)) (word : List ℕ) → spaced ([] ∷ word ∷ words) ≡ 32 ∷ spaced (word ∷ words)
spaced_later words word = refl

spaced_onto : (octet : ℕ) (word : List ℕ) (words : List (List ℕ)) → spaced (onto octet (word ∷ words)) ≡ octet ∷ spaced (word ∷ words)
spaced_onto octet word [] = refl
spaced_onto octet word (other ∷ words) = refl

pub spaced_words : (line : List ℕ) → spaced (words_of line) ≡ line
unfolding words_of
spaced_words [] = refl
spaced_words (octet ∷ line) = by (eqb octet 32) refl (words_of line) (words_are line) (spaced_words line) where
  by : (b : Bool) → eqb octet 32 ≡ b → (words : List (List ℕ)) → words ≡ front 32 line ∷ words_behind (behind 32 line) → spaced words ≡ line →
      spaced (cond b ([] ∷ words) (onto octet words)) ≡ octet ∷ line
  by b t [] shape again = absurd (cc)
  by true t (word ∷ words) shape again = let space : octet ≡ 32 = eqb-true octet 32 t in ap (λ (l : List ℕ). 32 ∷ l) again ∙ ap (λ (o : ℕ). o ∷ line) (sym space)
  by false t (word ∷ words) shape again = spaced_onto octet word words ∙ ap (λ (l : List ℕ). octet ∷ l) again

-- a word without spaces before the words of what follows
word_then : (word : List ℕ) (line : List ℕ) → Without 32 word → words_of (word ++ (32 ∷ line)) ≡ word ∷ words_of line
unfolding words_of
word_then [] line h = refl
word_then (octet ∷ word) line h = rw (h.0, word_then word line h.1) refl

one_word : (word : List ℕ) → Without 32 word → words_of word ≡ word ∷ []
unfolding words_of
one_word [] h = refl
one_word (octet ∷ word) h = rw (h.0, one_word word h.1) refl

pub words_spaced : (word : List ℕ) (words : List (List ℕ)) → AllWithout 32 (word ∷ words) → words_of (spaced (word ∷ words)) ≡ word ∷ words
words_spaced word [] h = one_word word h.0
words_spaced word (other ∷ words) h = word_then word (spaced (other ∷ words)) h.0 ∙ ap (λ (l : List (List ℕ)). word ∷ l) (words_spaced other words h.1)

-- ---- lines

line_then : (line text : List ℕ) → Without 10 line → lines_of (line ++ (10 ∷ text)) ≡ line ∷ lines_of text
unfolding lines_of
line_then [] text h = refl
line_then (octet ∷ line) text h = rw (h.0, line_then line text h.1) refl

last_line : (octet : ℕ) (line : List ℕ) → Without 10 (octet ∷ line) → lines_of (octet ∷ line) ≡ (octet ∷ line) ∷ []
unfolding lines_of
last_line octet [] h = rw h.0 refl
last_line octet (next ∷ line) h = rw h.0 (ap (λ (l : List (List ℕ)). onto octet l) (last_line next line h.1))

pub lines_ended : (lines : List (List ℕ)) → AllWithout 10 lines → lines_of (ended lines) ≡ lines
unfolding lines_of
lines_ended [] h = refl
lines_ended (line ∷ lines) h = line_then line (ended lines) h.0 ∙ ap (λ (l : List (List ℕ)). line ∷ l) (lines_ended lines h.1)

pub lines_open : (lines : List (List ℕ)) (last : List ℕ) → AllWithout 10 lines → AllWithout 10 (last ∷ []) → last ≢ [] → lines_of (ended lines ++ last) ≡ lines ++ last ∷ []
lines_open [] [] h k some = absurd (some refl)
lines_open [] (octet ∷ last) h k some = last_line octet last k.0
lines_open (line ∷ lines) last h k some =
    ap lines_of (append_assoc line (10 ∷ ended lines) last) ∙ line_then line (ended lines ++ last) h.0 ∙ ap (λ (l : List (List ℕ)). line ∷ l) (lines_open lines last h.1 k some)
