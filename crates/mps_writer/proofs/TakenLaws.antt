-- A text that goes into a sink part by part.
use Rattle.mps_writer.proofs.Common.{◌≡◌, ℕ, zero, suc, ◌+◌, ◌≤◌, List, [], ◌++◌, length, take, drop, refl, ap, sym, ◌∙◌, subst, append_assoc, arith, ◌∷◌, flat_map, Result, Ok, Err, OnErr, OnOk, append-nil, take-append-drop, drop-nil, Output, Took, TookPrefix, took-both, took-first, took-nothing, took-same, CutsOf, Fails, LeavesOf, Takes}
use Rattle.io_edges.specs.Count.{Rose}
use Rattle.mps_writer.specs.declared.sending.MpsFail.{MpsFail}
use Rattle.mps_writer.specs.declared.sending.MpsFail.TheVariants.{Write, Memory}

drop-both : (s n : ℕ) (xs : List ℕ) → drop (s + n) xs ≡ drop n (drop s xs)
drop-both zero n xs = let same : zero + n ≡ n = omega arith in ap (λ (k : ℕ). drop k xs) same
drop-both (suc s) n [] = drop-nil (suc s + n) ∙ sym (drop-nil n)
drop-both (suc s) n (x ∷ xs) = let same : suc s + n ≡ suc (s + n) = omega arith in ap (λ (k : ℕ). drop k (x ∷ xs)) same ∙ drop-both s n xs

drop-past : (s : ℕ) (xs : List ℕ) → length xs ≤ s → drop s xs ≡ []
drop-past zero [] past = refl
drop-past (suc s) [] past = refl
drop-past zero (x ∷ xs) past = absurd (omega (arith, past))
drop-past (suc s) (x ∷ xs) past = drop-past s xs (omega (arith, past))

-- nothing is written, and the whole is left
pub leaves-all : (whole left : List ℕ) (b : Output) → whole ≡ left → LeavesOf whole b b left
leaves-all whole left b is = record { sent = []; took = took-nothing b; split = sym is }

two_parts : (whole part rest first left : List ℕ) (b a c : Output) → (front : LeavesOf whole b a first) → first ≡ part ++ rest → LeavesOf part a c left
    → LeavesOf whole b c (left ++ rest)
two_parts whole part rest first left b a c front is second = record {
  sent = front.sent ++ second.sent;
  took = took-both b a c front.sent second.sent front.took second.took;
  split =
      append_assoc front.sent second.sent (left ++ rest)
      ∙ ap (λ (all : List ℕ). front.sent ++ all) (sym (append_assoc second.sent left rest) ∙ ap (λ (all : List ℕ). all ++ rest) second.split ∙ sym is)
      ∙ front.split;
}

-- one part more is taken, and the rest stays
pub leaves-more : (whole part rest first left : List ℕ) (b a c : Output) → LeavesOf whole b a first → first ≡ part ++ rest → LeavesOf part a c left → LeavesOf whole b c (left ++ rest)
leaves-more whole part rest first left b a c so_far is step = two_parts whole part rest first left b a c so_far is step

pub cuts-more : (whole part rest first : List ℕ) (b a c : Output) → LeavesOf whole b a first → first ≡ part ++ rest → CutsOf part a c → CutsOf whole b c
cuts-more whole part rest first b a c so_far is step = (step.0 ++ rest, two_parts whole part rest first step.0 b a c so_far is step.1)

pub cuts-now : (whole left : List ℕ) (b a : Output) → LeavesOf whole b a left → CutsOf whole b a
cuts-now whole left b a so_far = (left, so_far)

pub rose-earlier : (m n k : ℕ) → m ≤ n → Rose n k → Rose m k
rose-earlier m n k low rose = omega (arith, low, rose)

-- where the next part fails, all fails
pub fails-more : (whole part rest first : List ℕ) (fail : MpsFail) (b a c : Output) (m n k : ℕ)
    → LeavesOf whole b a first → m ≤ n → first ≡ part ++ rest → Fails part fail a c n k → Fails whole fail b c m k
fails-more whole part rest first Write b a c m n k so_far low is step =
    (cuts-more whole part rest first b a c so_far is step.0, omega (arith, low, step.1), rose-earlier m n k low step.2)
fails-more whole part rest first Memory b a c m n k so_far low is step =
    (cuts-more whole part rest first b a c so_far is step.0, omega (arith, low, step.1))

-- where memory runs out before it
pub fails-now : (whole first : List ℕ) (b a : Output) (m n : ℕ) → LeavesOf whole b a first → m ≤ n → Fails whole Memory b a m n
fails-now whole first b a m n so_far low = (cuts-now whole first b a so_far, low)

-- the same is left of it
pub leaves-same : (whole x y : List ℕ) (b a c : Output) → LeavesOf whole b a x → x ≡ y → a ≡ c → LeavesOf whole b c y
leaves-same whole x y b a c so_far is same = subst (λ (left : List ℕ). LeavesOf whole b c left) is (subst (λ (now : Output). LeavesOf whole b now x) same so_far)

-- what is cut off is a prefix
pub prefix-cut : (whole : List ℕ) (b a : Output) → CutsOf whole b a → TookPrefix b a whole
prefix-cut whole b a cut = took-first b a whole cut.1.sent cut.0 cut.1.split cut.1.took

-- what fails is cut off
pub cut-of : (whole : List ℕ) (fail : MpsFail) (b a : Output) (m n : ℕ) → Fails whole fail b a m n → CutsOf whole b a
cut-of whole Write b a m n fails = fails.0
cut-of whole Memory b a m n fails = fails.0

-- what leaves nothing was taken
pub all-written : (whole : List ℕ) (b a : Output) → LeavesOf whole b a [] → Took b a whole
all-written whole b a front = took-same b a front.sent whole (sym (append-nil front.sent) ∙ front.split) front.took

-- where nothing is left at the end, the text was written, or else a prefix of it
pub ends-sent : {B : Type 0} (whole left : List ℕ) (outcome : Result B MpsFail) (b a : Output) (m n : ℕ) → Takes whole outcome b a m n left → OnOk outcome (left ≡ [])
    → OnOk outcome (Took b a whole)
ends-sent whole left (Ok u) b a m n taken empty = all-written whole b a (subst (λ (rest : List ℕ). LeavesOf whole b a rest) empty taken.0)
ends-sent whole left (Err fail) b a m n taken empty = tt

pub ends-cut : {B : Type 0} (whole left : List ℕ) (outcome : Result B MpsFail) (b a : Output) (m n : ℕ) → Takes whole outcome b a m n left
    → OnErr outcome (TookPrefix b a whole)
ends-cut whole left (Ok u) b a m n taken = tt
ends-cut whole left (Err fail) b a m n taken = prefix-cut whole b a (cut-of whole fail b a m n taken)

-- ---- one text after another

-- the next text is taken, and what comes after it is left
pub then-more : (whole buffer x y left : List ℕ) (b a c : Output) → LeavesOf whole b a (buffer ++ (x ++ y)) → LeavesOf (buffer ++ x) a c left → LeavesOf whole b c (left ++ y)
then-more whole buffer x y left b a c so_far step = leaves-more whole (buffer ++ x) y (buffer ++ (x ++ y)) left b a c so_far (sym (append_assoc buffer x y)) step

-- or it fails, and so does the whole
pub then-fails : (whole buffer x y : List ℕ) (fail : MpsFail) (b a c : Output) (m n k : ℕ) → LeavesOf whole b a (buffer ++ (x ++ y)) → m ≤ n → Fails (buffer ++ x) fail a c n k → Fails whole fail b c m k
then-fails whole buffer x y fail b a c m n k so_far low step = fails-more whole (buffer ++ x) y (buffer ++ (x ++ y)) fail b a c m n k so_far low (sym (append_assoc buffer x y)) step

-- the last text
pub then-last : {B : Type 0} (whole text left : List ℕ) (outcome : Result B MpsFail) (b a c : Output) (m n k : ℕ) → LeavesOf whole b a text → m ≤ n → Takes text outcome a c n k left → Takes whole outcome b c m k left
then-last whole text left (Ok u) b a c m n k so_far low step = (
  subst (λ (all : List ℕ). LeavesOf whole b c all) (append-nil left) (leaves-more whole text [] text left b a c so_far (sym (append-nil text)) step.0),
  omega (arith, low, step.1),
)
then-last whole text left (Err fail) b a c m n k so_far low step = fails-more whole text [] text fail b a c m n k so_far low (sym (append-nil text)) step

-- ---- one element of a list after another

item-split : {A : Type 0} (f : A → List ℕ) (x : A) (xs all : List A) (buffer part : List ℕ) → all ≡ x ∷ xs → part ≡ f x → buffer ++ flat_map f all ≡ (buffer ++ part) ++ flat_map f xs
item-split f x xs all buffer part is own =
    ap (λ (items : List _). buffer ++ flat_map f items) is
    ∙ ap (λ (text : List ℕ). buffer ++ (text ++ flat_map f xs)) (sym own)
    ∙ sym (append_assoc buffer part (flat_map f xs))

-- an element's text is taken
pub item-taken : {A : Type 0} (f : A → List ℕ) (x : A) (xs all : List A) (whole buffer part left : List ℕ) (b a c : Output) → all ≡ x ∷ xs → part ≡ f x
    → LeavesOf whole b a (buffer ++ flat_map f all) → LeavesOf (buffer ++ part) a c left → LeavesOf whole b c (left ++ flat_map f xs)
item-taken f x xs all whole buffer part left b a c is own so_far step =
    leaves-more whole (buffer ++ part) (flat_map f xs) (buffer ++ flat_map f all) left b a c so_far (item-split f x xs all buffer part is own) step

-- or it fails, and so do all
pub item-fails : {A : Type 0} (f : A → List ℕ) (x : A) (xs all : List A) (whole buffer part : List ℕ) (fail : MpsFail) (b a c : Output) (m n k : ℕ)
    → all ≡ x ∷ xs → part ≡ f x → LeavesOf whole b a (buffer ++ flat_map f all) → m ≤ n → Fails (buffer ++ part) fail a c n k → Fails whole fail b c m k
item-fails f x xs all whole buffer part fail b a c m n k is own so_far low step =
    fails-more whole (buffer ++ part) (flat_map f xs) (buffer ++ flat_map f all) fail b a c m n k so_far low (item-split f x xs all buffer part is own) step

-- at the end nothing but the buffer is left
pub item-end : {A : Type 0} (f : A → List ℕ) (all : List A) (whole buffer : List ℕ) (b a : Output) → all ≡ [] → LeavesOf whole b a (buffer ++ flat_map f all) → LeavesOf whole b a buffer
item-end f all whole buffer b a none so_far =
    subst (λ (left : List ℕ). LeavesOf whole b a left) (ap (λ (items : List _). buffer ++ flat_map f items) none ∙ append-nil buffer) so_far

-- ---- a write

-- what a write takes comes after what was sent
pub send-more : (text piece : List ℕ) (b a c : Output) (s n : ℕ) → piece ≡ drop s text → LeavesOf text b a (drop s text) → Took a c (take n piece) → LeavesOf text b c (drop (s + n) text)
send-more text piece b a c s n is front step = record {
  sent = front.sent ++ take n (drop s text);
  took = took-both b a c front.sent (take n (drop s text)) front.took (took-same a c (take n piece) (take n (drop s text)) (ap (take n) is) step);
  split =
      append_assoc front.sent (take n (drop s text)) (drop (s + n) text)
      ∙ ap (λ (all : List ℕ). front.sent ++ (take n (drop s text) ++ all)) (drop-both s n text)
      ∙ ap (λ (all : List ℕ). front.sent ++ all) (take-append-drop n (drop s text))
      ∙ front.split;
}

-- at the end nothing is left
pub send-end : (text : List ℕ) (s : ℕ) (b a : Output) → length text ≤ s → LeavesOf text b a (drop s text) → LeavesOf text b a []
send-end text s b a past so_far = subst (λ (left : List ℕ). LeavesOf text b a left) (drop-past s text past) so_far

-- a write that failed
pub stays-cut : (whole left : List ℕ) (b a c : Output) → LeavesOf whole b a left → c ≡ a → CutsOf whole b c
stays-cut whole left b a c so_far stays = (left, subst (λ (now : Output). LeavesOf whole b now left) (sym stays) so_far)

-- before any of it
pub cuts-none : (whole : List ℕ) (b : Output) → CutsOf whole b b
cuts-none whole b = cuts-now whole whole b b (leaves-all whole whole b refl)
