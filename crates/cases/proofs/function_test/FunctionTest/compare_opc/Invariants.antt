use Rattle.std.proofs.Common.{◌≡◌}
use Rattle.published.specs.Comparison.{more}
use Rattle.cases.proofs.function_test.FunctionTest.compare_opc.Given as goal

-- each block so far is counted
abbrev pub invariant-loop-value : goal.invariant-loop-value
invariant-loop-value l = l.tally.compared ≡ more l.value-index 0
