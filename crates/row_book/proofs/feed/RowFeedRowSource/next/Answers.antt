use Rattle.row_book.proofs.Common.{◌≡◌, ◌<◌, ◌∙◌, ◌+◌, ℕ, Bool, List, [], Option, drop, length, map, ap, sym, subst, true, enumerate_from, IfSome, slice_index_or, Discounting, Row, instances, places_of, RowContents, contents_of, CanBeMade, ahead_after, ahead_at, equation_contents, HeldRows}
use Rattle.row_book.proofs.FeedLaws.{answers-same, both-stay, held-say}
use Rattle.row_book.proofs.feed.RowFeedRowSource.next.Goals as goal
use Rattle.row_book.proofs.feed.RowFeedRowSource.next.Goals.{After-next_copy}

-- what the rows of the equation say
abbrev contents : After-next_copy → List RowContents
contents c = equation_contents (places_of c.self.inside.factors.items) c.self.inside.model.now.facts c.self.inside.eq

-- what is left of those that are held
left : (c : After-next_copy) (taken : ℕ) → map contents_of (drop taken c.deref.result.now) ≡ drop taken (contents c)
left c taken =
    let feed = c.self.inside in
    let there = subst (λ (p : Option ℕ). IfSome p (λ i. (i < length feed.held.items) × ((z : HeldRows) → (slice_index_or feed.held.items i z).eq ≡ feed.eq))) c.in-Some.is c.self.invariant.place_is in
    let rows_are : c.deref.result.now ≡ (slice_index_or feed.held.items c.in-Some.place c.index.result.now).rows.items =
    c.deref.ensures.value ∙ ap (λ (h : HeldRows). h.rows.items) c.index.ensures in
    ap (λ (rows : List Row). map contents_of (drop taken rows)) rows_are
    ∙ held-say (places_of feed.factors.items) feed.model.now.facts feed.held.items c.in-Some.place feed.eq taken c.index.result.now c.self.invariant.held_are there.0 (there.1 c.index.result.now)

-- the rows that are ahead after so many
ahead : (c : After-next_copy) (taken passed : ℕ) → enumerate_from (passed + 1) (map contents_of (drop taken c.deref.result.now))
    ≡ ahead_at c.self.inside.place taken passed c.self.inside.made c.self.inside.rows.items (contents c)
ahead c taken passed =
    ap (enumerate_from (passed + 1)) (left c taken)
    ∙ ap (λ (p : Option ℕ). ahead_at p taken passed c.self.inside.made c.self.inside.rows.items (contents c)) (sym c.in-Some.is)

pub returns-in-Some-clause-answers : goal.returns-in-Some-clause-answers
returns-in-Some-clause-answers c =
    let at = (goal.at.returns-in-Some-clause-answers c).After-next_copy in
    let feed = c.self.inside in
    answers-same c.next_copy.result _ _ _ _ (ahead at feed.taken feed.passed ∙ ap (λ v. v.ahead) c.self.view_is) (ahead at c.next_copy.new.taken c.next_copy.new.passed) c.next_copy.ensures.answers

pub returns-in-Some-clause-stays : goal.returns-in-Some-clause-stays
returns-in-Some-clause-stays c =
    let feed = c.self.inside in
    let said : List RowContents = equation_contents (places_of feed.factors.items) feed.model.now.facts feed.eq in
    both-stay c.next_copy.result
    (λ taken passed.
    ap (λ (n : ℕ). ahead_at feed.place n c.next_copy.new.passed feed.made feed.rows.items said) taken
    ∙ ap (λ (n : ℕ). ahead_at feed.place feed.taken n feed.made feed.rows.items said) passed
    ∙ ap (λ v. v.ahead) c.self.view_is)
    c.next_copy.ensures.taken_stays c.next_copy.ensures.passed_stays

pub returns-then-self-clause-answers : goal.returns-then-self-clause-answers
returns-then-self-clause-answers c =
    let feed = c.self.inside in
    let said : List RowContents = equation_contents (places_of feed.factors.items) feed.model.now.facts feed.eq in
    let same = λ (passed : ℕ) (rows : List Row). ap (λ (b : Bool). ahead_after passed b rows said) (sym c.if-self.true) ∙ ap (λ (p : Option ℕ). ahead_at p feed.taken passed feed.made rows said) (sym c.in-None.is) in
    answers-same c.next_row.result _ _ _ _ (same feed.passed feed.rows.items ∙ ap (λ v. v.ahead) c.self.view_is) (same c.next_row.new.passed c.next_row.new.rows.items) c.next_row.ensures.answers

pub equation_rows-requires-clause-made : goal.equation_rows-requires-clause-made
equation_rows-requires-clause-made c =
    subst (λ (fs : List Discounting). CanBeMade (places_of fs) c.self.inside.model.now.facts 0 (instances c.self.inside.model.now.facts)) (sym c.deref-2.ensures.value) c.self.invariant.made

-- the rows that are made are those that were ahead
pub returns-clause-answers : goal.returns-clause-answers
returns-clause-answers c =
    let feed = c.self.inside in
    let said : List RowContents = equation_contents (places_of feed.factors.items) feed.model.now.facts feed.eq in
    let before : ahead_after feed.passed true c.in-Ok.rows.items [] ≡ c.args.self.now.ahead =
    ap (enumerate_from (feed.passed + 1)) (c.in-Ok.ensures ∙ ap (λ (fs : List Discounting). equation_contents (places_of fs) feed.model.now.facts feed.eq) c.deref-2.ensures.value)
    ∙ ap (λ (b : Bool). ahead_after feed.passed b feed.rows.items said) (sym c.if-self.false)
    ∙ ap (λ (p : Option ℕ). ahead_at p feed.taken feed.passed feed.made feed.rows.items said) (sym c.in-None.is)
    ∙ ap (λ v. v.ahead) c.self.view_is in
    answers-same c.next_row-2.result _ _ _ _ before
    (ap (λ (p : Option ℕ). ahead_at p feed.taken c.next_row-2.new.passed true c.next_row-2.new.rows.items said) (sym c.in-None.is)) c.next_row-2.ensures.answers
