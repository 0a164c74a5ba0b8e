-- The orders of names and of keys are total, and they tell names and keys apart.
use Rattle.std.specs.FinMap.{IsAntisymmetric, nat_cmp-IsAntisymmetric, slice_cmp-IsAntisymmetric}
use Rattle.std.specs.Cmp.{IsTotalOrder}
use Rattle.std.specs.Cmp.Lexicographic.{nat_list_cmp_total}
use Rattle.std.proofs.lemmas.Cmp.{then_total, on_total, lists_total, nat_cmp_total}
use Rattle.plan_schema.specs.Key.{name_cmp, key_cmp, table, fields}
use Rattle.plan_schema.proofs.Orders.{exact_keys}

pub name_total : IsTotalOrder name_cmp
name_total = nat_list_cmp_total

pub name_exact : IsAntisymmetric name_cmp
name_exact = slice_cmp-IsAntisymmetric nat_cmp-IsAntisymmetric

pub key_total : IsTotalOrder key_cmp
key_total = then_total (on_total table nat_cmp_total) (on_total fields (lists_total nat_list_cmp_total))

pub key_exact : IsAntisymmetric key_cmp
key_exact = exact_keys
