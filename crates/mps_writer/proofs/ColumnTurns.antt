-- A turn of the loop over the columns.
use Rattle.mps_writer.proofs.Common.{◌≡◌, ℕ, zero, suc, ◌+◌, ◌<◌, List, [], ◌∷◌, ◌++◌, true, length, drop, get_or, ap, sym, ◌∙◌, append_assoc, Less, flat_map, enumerate_from, is_lt, at_drop_more, SetLists, Var, ascends, var_cmp, var_cmp_total, Entry, Rises, following, column_text, lines_of, column_head}
use Rattle.row_core.proofs.AscendingLaws.{both_passed, Less-from_test, ascends-tail}
use Rattle.mps_writer.proofs.ColumnText.{AllAfter, lines-filter, columns-following}

all_after-earlier : (u v : Var) (ws : List Var) → var_cmp u v ≡ Less → AllAfter v ws → AllAfter u ws
all_after-earlier u v [] less all = all
all_after-earlier u v (w ∷ ws) less all = (var_cmp_total.trans u v w less all.0, all_after-earlier u v ws less all.1)

-- the first of ascending variables is before each of the others
pub all_after : (v : Var) (ws : List Var) → ascends var_cmp (v ∷ ws) ≡ true → AllAfter v ws
all_after v [] h = tt
all_after v (w ∷ ws) h =
    let parts = both_passed (is_lt (var_cmp v w)) (ascends var_cmp (w ∷ ws)) h in
    let less : var_cmp v w ≡ Less = Less-from_test (var_cmp v w) parts.0 in
    (less, all_after-earlier v w ws less (all_after w ws parts.1))

-- what stays of ascending variables ascends
pub ascends-drop : (k : ℕ) (ws : List Var) → ascends var_cmp ws ≡ true → ascends var_cmp (drop k ws) ≡ true
ascends-drop zero ws h = h
ascends-drop (suc k) [] h = h
ascends-drop (suc k) (w ∷ ws) h = ascends-drop k ws (ascends-tail var_cmp w ws h)

-- the column of a variable, and the columns of those after it over what is left of the entries
pub column-turn : (sets : SetLists) (vars : List Var) (k : ℕ) (v d : Var) (es left : List Entry) (out headed pushed all : List ℕ)
    → k < length vars → v ≡ get_or vars k d → ascends var_cmp vars ≡ true → Rises es
    → out ++ flat_map (column_text sets es) (enumerate_from (k + 1) (drop k vars)) ≡ all
    → headed ≡ out ++ column_head sets (k + 1, v) → pushed ≡ headed ++ lines_of (k + 1) v es → left ≡ following v es
    → pushed ++ flat_map (column_text sets left) (enumerate_from (k + 1 + 1) (drop (k + 1) vars)) ≡ all
column-turn sets vars k v d es left out headed pushed all less is ascending rises so_far with_head with_lines passed =
    let ws = drop (k + 1) vars in
    let head = column_head sets (k + 1, v) in
    let lines = lines_of (k + 1) v es in
    let others = flat_map (column_text sets es) (enumerate_from (k + 1 + 1) ws) in
    let whole : ascends var_cmp (v ∷ ws) ≡ true =
    ap (λ (w : Var). ascends var_cmp (w ∷ ws)) is ∙ sym (at_drop_more (ascends var_cmp) vars k d less) ∙ ascends-drop k vars ascending in
    let own : column_text sets es (k + 1, v) ≡ head ++ lines = ap (λ (text : List ℕ). head ++ text) (sym (lines-filter (k + 1) v es rises)) in
    ap (λ (front : List ℕ). front ++ flat_map (column_text sets left) (enumerate_from (k + 1 + 1) ws)) (with_lines ∙ ap (λ (front : List ℕ). front ++ lines) with_head)
    ∙ ap (λ (es' : List Entry). ((out ++ head) ++ lines) ++ flat_map (column_text sets es') (enumerate_from (k + 1 + 1) ws)) passed
    ∙ ap (λ (rest : List ℕ). ((out ++ head) ++ lines) ++ rest) (columns-following sets v es (k + 1 + 1) ws (all_after v ws whole))
    ∙ ap (λ (front : List ℕ). front ++ others) (append_assoc out head lines)
    ∙ append_assoc out (head ++ lines) others
    ∙ ap (λ (text : List ℕ). out ++ (text ++ others)) (sym own)
    ∙ ap (λ (w : Var). out ++ flat_map (column_text sets es) (enumerate_from (k + 1) (w ∷ ws))) is
    ∙ ap (λ (text : List ℕ). out ++ text) (sym (at_drop_more (λ (xs : List Var). flat_map (column_text sets es) (enumerate_from (k + 1) xs)) vars k d less))
    ∙ so_far
