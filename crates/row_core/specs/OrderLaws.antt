-- That the order of subscripts is a total one, for the comparison that is written out.
use Rattle.std.proofs.lemmas.Cmp.{on_total, then_total, nat_cmp_total}
use Rattle.std.specs.Cmp.{IsTotalOrder}
use Rattle.row_core.specs.declared.Index.{Index}
use Rattle.row_core.specs.Order.{index_cmp}

pub index_cmp_total : IsTotalOrder index_cmp
index_cmp_total =
    then_total (on_total (λ (i : Index). i.region) nat_cmp_total)
    (then_total (on_total (λ (i : Index). i.other) nat_cmp_total)
    (then_total (on_total (λ (i : Index). i.slice) nat_cmp_total)
    (then_total (on_total (λ (i : Index). i.tech) nat_cmp_total)
    (then_total (on_total (λ (i : Index). i.fuel) nat_cmp_total)
    (then_total (on_total (λ (i : Index). i.emission) nat_cmp_total)
    (then_total (on_total (λ (i : Index). i.mode) nat_cmp_total) (on_total (λ (i : Index). i.year) nat_cmp_total)))))))
