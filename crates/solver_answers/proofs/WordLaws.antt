-- The first line of a text, and the first word of a line.
use Rattle.solver_answers.proofs.Common.{◌≡◌, ℕ, suc, zero, ◌+◌, ◌<◌, ◌≤◌, true, false, not, List, [], ◌∷◌, length, get_or, take, drop, refl, sym, ap, ◌∙◌, add-one, arith, filter, onto_first, position_or_len, prefix_len, slice_split, fails_before_first, passes_at_first, prefix_len-le-length, prefix_len_passes, prefix_len_stops, get_or-drop, length-drop, ends_line, lines, with_byte, Word, is_blank, is_word, words}
use Rattle.std.proofs.lemmas.List.Splits.{slice_split-cons_no, slice_split-cons_yes}

-- ---- lines

-- a line of so many bytes, and the rest after its line feed
line_cut : (text : List ℕ) (n : ℕ) → n < length text → ((k : ℕ) → k < n → ends_line (get_or text k 0) ≡ false) → ends_line (get_or text n 0) ≡ true → lines text ≡ take n text ∷ lines (drop (suc n) text)
line_cut [] n short before here = absurd (omega arith)
line_cut (b ∷ bs) zero short before here = rw here
line_cut (b ∷ bs) (suc n) short before here =
    ap (with_byte b) (line_cut bs n (omega arith) (λ k l. before (suc k) (omega arith)) here) ∙ going_on b (take n bs) (lines (drop (suc n) bs)) (before 0 (omega arith))
  where
    going_on : (b : ℕ) (line : List ℕ) (later : List (List ℕ)) → ends_line b ≡ false → with_byte b (line ∷ later) ≡ (b ∷ line) ∷ later
    going_on b line later on = rw on

pub first_line : (text : List ℕ) (n : ℕ) → n ≡ position_or_len ends_line text → n < length text → lines text ≡ take n text ∷ lines (drop (n + 1) text)
first_line text n first short =
    rw add-one (line_cut text n short
    (λ k l. fails_before_first ends_line text k 0 (omega (arith, l, first)))
    (ap (λ m. ends_line (get_or text m 0)) first ∙ passes_at_first ends_line text 0 (omega (arith, first, short))))

-- a text of one line without a line feed
one_line : (b : ℕ) (bs : List ℕ) → ((k : ℕ) → k < length (b ∷ bs) → ends_line (get_or (b ∷ bs) k 0) ≡ false) → lines (b ∷ bs) ≡ (b ∷ bs) ∷ []
one_line b [] none = rw (none 0 (omega arith))
one_line b (c ∷ bs) none = ap (with_byte b) (one_line c bs (λ k l. none (suc k) (omega arith))) ∙ alone b (c ∷ bs) (none 0 (omega arith))
  where
    alone : (b : ℕ) (line : List ℕ) → ends_line b ≡ false → with_byte b (line ∷ []) ≡ (b ∷ line) ∷ []
    alone b line on = rw on

pub last_line : (text : List ℕ) (n : ℕ) → n ≡ position_or_len ends_line text → length text ≤ n → (length text ≡ 0 → ⊥) → lines text ≡ text ∷ []
last_line [] n first long some = absurd (some refl)
last_line (b ∷ bs) n first long some = one_line b bs (λ k l. fails_before_first ends_line (b ∷ bs) k 0 (omega (arith, l, first, long)))

-- ---- words

pub no_words : words [] ≡ []
unfolding words
no_words = refl

blank_first : (b : ℕ) (bs : List ℕ) → is_blank b ≡ true → words (b ∷ bs) ≡ words bs
unfolding words
blank_first b bs blank = ap (filter is_word) (slice_split-cons_yes is_blank b bs blank)

pub after_blanks : (line : List ℕ) (n : ℕ) → n ≤ length line → ((k : ℕ) → k < n → is_blank (get_or line k 0) ≡ true) → words line ≡ words (drop n line)
after_blanks line zero long blanks = refl
after_blanks [] (suc n) long blanks = absurd (omega arith)
after_blanks (b ∷ bs) (suc n) long blanks = blank_first b bs (blanks 0 (omega arith)) ∙ after_blanks bs n (omega arith) (λ k l. blanks (suc k) (omega arith))

-- the pieces of a line: the first of them ends before the first blank, or at the end
word_cut : (b : ℕ) (bs : List ℕ) (n : ℕ) → n ≤ length bs → ((k : ℕ) → k < suc n → is_blank (get_or (b ∷ bs) k 0) ≡ false) → (n < length bs → is_blank (get_or bs n 0) ≡ true)
    → (pieces : List Word) × (slice_split is_blank (b ∷ bs) ≡ (b ∷ take n bs) ∷ pieces) × (filter is_word pieces ≡ words (drop n bs))
unfolding words
word_cut b [] zero long word blank = ([], slice_split-cons_no is_blank b [] (word 0 (omega arith)), refl)
word_cut b [] (suc n) long word blank = absurd (omega arith)
word_cut b (c ∷ cs) zero long word blank =
    let here : is_blank c ≡ true = blank (omega arith) in
    (slice_split is_blank cs, slice_split-cons_no is_blank b (c ∷ cs) (word 0 (omega arith)) ∙ ap (onto_first b) (slice_split-cons_yes is_blank c cs here), sym (blank_first c cs here))
word_cut b (c ∷ cs) (suc n) long word blank =
    let rest = word_cut c cs n (omega arith) (λ k l. word (suc k) (omega arith)) (λ l. blank (omega arith)) in
    (rest.0, slice_split-cons_no is_blank b (c ∷ cs) (word 0 (omega arith)) ∙ ap (onto_first b) rest.1, rest.2)

-- the first word of a line that doesn't begin with a blank
pub first_word : (line : List ℕ) (n : ℕ) → n ≡ position_or_len is_blank line → 0 < length line → is_blank (get_or line 0 0) ≡ false → words line ≡ take n line ∷ words (drop n line)
unfolding words
first_word [] n first some begun = absurd (omega arith)
first_word (b ∷ bs) zero first some begun =
    let here : is_blank b ≡ true = ap (λ m. is_blank (get_or (b ∷ bs) m 0)) first ∙ passes_at_first is_blank (b ∷ bs) 0 (omega (arith, first)) in absurd (cc (here, begun))
first_word (b ∷ bs) (suc n) first some begun =
    let most : suc n ≤ length (b ∷ bs) = omega (arith, first, prefix_len-le-length (λ x. not (is_blank x)) (b ∷ bs)) in
    let cut =
    word_cut b bs n (omega (arith, most)) (λ k l. fails_before_first is_blank (b ∷ bs) k 0 (omega (arith, l, first)))
    (λ l. ap (λ m. is_blank (get_or (b ∷ bs) m 0)) first ∙ passes_at_first is_blank (b ∷ bs) 0 (omega (arith, first, l))) in
    ap (filter is_word) cut.1 ∙ ap (λ rest. (b ∷ take n bs) ∷ rest) cut.2

-- the words of a line are those after the blanks that it begins with, and there no blank stands first
pub after_all_blanks : (line begun : List ℕ) (n : ℕ) → n ≡ prefix_len is_blank line → begun ≡ drop n line → words line ≡ words begun
after_all_blanks line begun n first is =
    after_blanks line n (omega (arith, first, prefix_len-le-length is_blank line)) (λ k l. prefix_len_passes is_blank line k 0 (omega (arith, l, first)))
    ∙ ap words (sym is)

pub word_begins : (line begun : List ℕ) (n : ℕ) → n ≡ prefix_len is_blank line → begun ≡ drop n line → 0 < length begun → is_blank (get_or begun 0 0) ≡ false
word_begins line begun n first is some =
    ap (λ (xs : List ℕ). is_blank (get_or xs 0 0)) is ∙ ap is_blank (get_or-drop n line 0 0) ∙ ap (λ (m : ℕ). is_blank (get_or line m 0)) (at first)
    ∙ prefix_len_stops is_blank line 0 (omega (arith, first, is_inside))
  where
    at : n ≡ prefix_len is_blank line → n + 0 ≡ prefix_len is_blank line
    at e = omega (arith, e)

    is_inside : n < length line
    is_inside = omega (arith, some, ap length is, length-drop n line)
