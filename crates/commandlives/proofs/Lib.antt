mod LivesOut
