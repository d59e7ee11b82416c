mod Swapped
