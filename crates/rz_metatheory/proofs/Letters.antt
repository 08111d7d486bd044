-- The letters of rows, by the names that the row tables give them.
use Rattle.rz_rules.specs.Cube.{Binders, binders_of}
use Rattle.rz_rules.specs.Row.{Assignment}
use Rattle.rz_rules.specs.Tree.{Tree}
use Rattle.rz_metatheory.specs.Place.{Place, place_of}

abbrev pub C : Assignment → Tree
C letters = letters.letters 0

abbrev pub I : Assignment → Tree
I letters = letters.letters 1

abbrev pub K : Assignment → Tree
K letters = letters.letters 2

abbrev pub S : Assignment → Tree
S letters = letters.letters 3

abbrev pub S1 : Assignment → Tree
S1 letters = letters.letters 4

abbrev pub T : Assignment → Tree
T letters = letters.letters 5

abbrev pub T1 : Assignment → Tree
T1 letters = letters.letters 6

abbrev pub W : Assignment → Tree
W letters = letters.letters 7

abbrev pub P : Assignment → Tree
P letters = letters.letters 8

abbrev pub P1 : Assignment → Tree
P1 letters = letters.letters 9

abbrev pub Q : Assignment → Tree
Q letters = letters.letters 10

abbrev pub Q1 : Assignment → Tree
Q1 letters = letters.letters 11

abbrev pub R : Assignment → Tree
R letters = letters.letters 12

abbrev pub A : Assignment → Tree
A letters = letters.letters 13

abbrev pub A1 : Assignment → Tree
A1 letters = letters.letters 14

abbrev pub B : Assignment → Tree
B letters = letters.letters 15

abbrev pub B1 : Assignment → Tree
B1 letters = letters.letters 16

abbrev pub X : Assignment → Tree
X letters = letters.letters 17

abbrev pub X1 : Assignment → Tree
X1 letters = letters.letters 18

abbrev pub Y : Assignment → Tree
Y letters = letters.letters 19

abbrev pub Y1 : Assignment → Tree
Y1 letters = letters.letters 20

abbrev pub Z : Assignment → Tree
Z letters = letters.letters 21

abbrev pub F : Assignment → Tree
F letters = letters.letters 22

abbrev pub F1 : Assignment → Tree
F1 letters = letters.letters 23

abbrev pub H : Assignment → Tree
H letters = letters.letters 24

abbrev pub H1 : Assignment → Tree
H1 letters = letters.letters 25

abbrev pub M : Assignment → Tree
M letters = letters.letters 26

abbrev pub M1 : Assignment → Tree
M1 letters = letters.letters 27

abbrev pub G : Assignment → Tree
G letters = letters.letters 28

abbrev pub G1 : Assignment → Tree
G1 letters = letters.letters 29

-- the place of the context, and what it binds
abbrev pub here : Assignment → Place
here letters = place_of (C letters)

abbrev pub binders : Assignment → Binders
binders letters = binders_of (C letters)
