-- What an end holds, in the words of its contracts.
use Rattle.std.specs.Prelude.{ℕ, List, take, Some, None, Option}
use Rattle.block.specs.Numbers.{bytes_of}
use Rattle.aka.specs.declared.sizes.Sizes.{Sizes}
use Rattle.aka.specs.declared.shared.Core.{Core}
use Rattle.aka.specs.declared.shared.functions.Functions.{Functions}
use Rattle.aka.specs.declared.network.NetworkEnd.{NetworkEnd}
use Rattle.aka.specs.declared.card.CardEnd.{CardEnd}
use Rattle.aka.specs.Setup.{Setup}
use Rattle.aka.specs.States.{Challenge, Network}

-- what stays at an end, its kernel by what it means by forth
abbrev pub setup_of : {K : Type 0} → (K → List ℕ → List ℕ) → Core K → Setup
setup_of forth c = record { forth = forth c.kernel; opc = c.opc; constants = c.constants; sizes = c.admitted.sizes }

-- the same of the functions at a RAND, and that RAND
abbrev pub setup_at : {K : Type 0} {g : _} → (K → List ℕ → List ℕ) → Functions K g → Setup
setup_at forth f =
    record { forth = forth f.computation.kernel.now; opc = f.computation.opc.now; constants = f.computation.constants.now; sizes = f.admitted.sizes }

abbrev pub rand_at : {K : Type 0} {g : _} → Functions K g → List ℕ
rand_at f = take f.admitted.sizes.rand f.rand

abbrev pub network_setup : {K : Type 0} → (K → List ℕ → List ℕ) → NetworkEnd K → Setup
network_setup forth end = setup_of forth end.core

abbrev pub card_setup : {K : Type 0} → (K → List ℕ → List ℕ) → CardEnd K → Setup
card_setup forth end = setup_of forth end.core

-- the open challenge: RAND and XRES are the fronts of their blocks
abbrev pub open_of : Sizes → Option ℕ → List ℕ → List ℕ → Option Challenge
open_of z None rand xres = None
open_of z (Some serial) rand xres = Some (record { serial = serial; rand = take z.rand rand; xres = take z.res xres })

-- what moves at a network end
abbrev pub network_of : {K : Type 0} → NetworkEnd K → Network
network_of end =
    record {
      number = bytes_of end.core.admitted.sizes.sqn end.book.number;
      given = end.book.given;
      pending = open_of end.core.admitted.sizes end.book.pending end.book.rand end.book.xres;
    }

-- what moves at a card: its number
abbrev pub card_number : {K : Type 0} → CardEnd K → List ℕ
card_number end = bytes_of end.core.admitted.sizes.sqn end.number

-- what an end is opened with
abbrev pub handed_in : (List ℕ → List ℕ) → List ℕ → List ℕ → Sizes → Setup
handed_in forth opc constants z = record { forth = forth; opc = opc; constants = constants; sizes = z }

-- a network end that was just opened: the number handed in, no challenge given, none open
abbrev pub fresh_network : List ℕ → Network
fresh_network n = record { number = n; given = 0; pending = None }
